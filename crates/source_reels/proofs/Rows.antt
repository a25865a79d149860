-- Worked reels and paths, by computation.
use Rattle.std.proofs.Common.{◌≡◌, ℕ, pos, negsuc, refl, List, [], ◌∷◌}
use Rattle.std.specs.Prelude.{codes, Some, None}
use Rattle.cf_base.specs.declared.reel.ReelEntry.{ReelEntry}
use Rattle.source_reels.specs.Reels.{reel_place, reels_fault, path_at, path_text, key_in}
use Rattle.source_reels.specs.declared.table.ReelKind.TheVariants.{TwoNames, Range}

abbrev reel : List ℕ → List ℕ → ℕ → ℕ → ℕ → ReelEntry
reel name prefix start frames file = record { name = name; prefix = prefix; start = start; day = 2073600; frames = frames; file = file }

abbrev desk : List ReelEntry
desk = reel (codes "A001") (codes "a001/a001.") 86400 48 86400 ∷ reel (codes "B002") (codes "b002/b002.") 172800 48 7 ∷ []

first_path : path_at desk 0 (pos 86400) ≡ Some (codes "a001/a001.0086400.dpx")
unfolding path_text
first_path = refl

-- the files are numbered from `file` on
last_path : path_at desk 1 (pos 172847) ≡ Some (codes "b002/b002.0000054.dpx")
unfolding path_text
last_path = refl

before_start : path_at desk 0 (pos 86399) ≡ None
before_start = refl

past_end : path_at desk 0 (pos 86448) ≡ None
past_end = refl

negative : path_at desk 0 (negsuc 0) ≡ None
negative = refl

no_reel : path_at desk 2 (pos 86400) ≡ None
no_reel = refl

key : key_in desk (pos 172801) 1 ≡ Some (record { reel = 1; source = 172801 })
key = refl

found : reel_place desk (codes "B002") ≡ Some 1
found = refl

not_found : reel_place desk (codes "B00") ≡ None
not_found = refl

accepted : reels_fault desk ≡ None
accepted = refl

-- the third reel has the first one's name, and goes past its end as well
two_names : reels_fault (reel (codes "A") (codes "a") 0 1 0 ∷ reel (codes "B") (codes "b") 0 1 0 ∷ reel (codes "A") (codes "c") 2073600 1 0 ∷ []) ≡ Some (record { reel = 3; kind = TwoNames })
two_names = refl

day_is_full : reels_fault (reel (codes "A") (codes "a") 2073590 10 9999990 ∷ []) ≡ None
day_is_full = refl

past_day : reels_fault (reel (codes "A") (codes "a") 2073590 11 0 ∷ []) ≡ Some (record { reel = 1; kind = Range })
past_day = refl

past_seven_digits : reels_fault (reel (codes "A") (codes "a") 0 1 0 ∷ reel (codes "B") (codes "b") 0 11 9999990 ∷ []) ≡ Some (record { reel = 2; kind = Range })
past_seven_digits = refl
