-- Lines from their pieces.
use Rattle.std.proofs.Common.{◌≡◌, ℕ, ◌+◌, ◌*◌, List, [], ◌∷◌, ◌++◌, codes, refl}
use Rattle.std.specs.Prelude.{decimal}
use Rattle.std.proofs.lemmas.List.{append_assoc}
use Rattle.cf_base.specs.Digits.{digits}
use Rattle.printed_text.specs.Text.{ended}
use Rattle.demo.specs.Texts.{head_text, reel_text, event_line, motion_line, label_text, transition, source_in, record_in}

pub head_joined : (t : List ℕ) → t ++ ended (codes "title = \"DEMO\"") ++ ended (codes "rate = 24") ++ ended (codes "width = 32") ++ ended (codes "height = 18") ++ ended (codes "edl = \"demo.edl\"") ≡ t ++ head_text
unfolding head_text
head_joined t = simp append_assoc refl

-- Each piece is a variable here, so that the two sides differ in nothing but how they are joined.
reel_pieces : (t table name R prefix r digit dot quote start frames count n : List ℕ)
    → t ++ (table ++ n) ++ (name ++ R) ++ digit ++ (quote ++ n) ++ (prefix ++ r) ++ digit ++ ((dot ++ quote) ++ n) ++ (start ++ n) ++ frames ++ count ++ n
    ≡ t ++ ((table ++ n) ++ ((name ++ (R ++ digit) ++ quote) ++ n) ++ ((prefix ++ (r ++ digit ++ dot) ++ quote) ++ n) ++ (start ++ n) ++ ((frames ++ count) ++ n))
reel_pieces t table name R prefix r digit dot quote start frames count n = simp append_assoc refl

pub reel_joined : (t : List ℕ) (frames reel : ℕ)
    → t ++ ended (codes "[[reel]]") ++ codes "name = \"R" ++ digits 1 reel ++ ended (codes "\"") ++ codes "prefix = \"r" ++ digits 1 reel ++ ended (codes ".\"") ++ ended (codes "start = \"01:00:00:00\"") ++ codes "frames = " ++ decimal frames ++ ended []
    ≡ t ++ reel_text frames reel
unfolding reel_text
reel_joined t frames reel = reel_pieces t (codes "[[reel]]") (codes "name = \"") (codes "R") (codes "prefix = \"") (codes "r") (digits 1 reel) (codes ".") (codes "\"") (codes "start = \"01:00:00:00\"") (codes "frames = ") (decimal frames) (10 ∷ [])

event_pieces : (t number R digit V shown a b c d s n : List ℕ)
    → t ++ number ++ (s ++ R) ++ digit ++ (s ++ (V ++ s)) ++ shown ++ (s ++ a) ++ (s ++ b) ++ (s ++ c) ++ (s ++ d) ++ n
    ≡ t ++ ((number ++ (s ++ ((R ++ digit) ++ (s ++ (V ++ (s ++ (shown ++ (s ++ (a ++ (s ++ (b ++ (s ++ (c ++ (s ++ d)))))))))))))) ++ n)
event_pieces t number R digit V shown a b c d s n = simp append_assoc refl

pub event_joined : (t : List ℕ) (group reel : ℕ)
    → t ++ digits 6 (4 * group + reel + 1) ++ codes " R" ++ digits 1 reel ++ codes " V " ++ transition reel
    ++ 32 ∷ label_text (source_in group) ++ 32 ∷ label_text (source_in group + 6) ++ 32 ∷ label_text (record_in group reel) ++ 32 ∷ label_text (record_in group reel + 6) ++ ended []
    ≡ t ++ event_line group reel
unfolding event_line
event_joined t group reel = event_pieces t (digits 6 (4 * group + reel + 1)) (codes "R") (digits 1 reel) (codes "V") (transition reel)
    (label_text (source_in group)) (label_text (source_in group + 6)) (label_text (record_in group reel)) (label_text (record_in group reel + 6)) (32 ∷ []) (10 ∷ [])

motion_pieces : (t M R speed a s n : List ℕ) → t ++ (M ++ (s ++ (R ++ (s ++ speed)))) ++ (s ++ a) ++ n ≡ t ++ ((M ++ (s ++ (R ++ (s ++ (speed ++ (s ++ a)))))) ++ n)
motion_pieces t M R speed a s n = simp append_assoc refl

pub motion_joined : (t : List ℕ) (group : ℕ) → t ++ codes "M2 R3 012.0" ++ 32 ∷ label_text (source_in group) ++ ended [] ≡ t ++ motion_line group
unfolding motion_line
motion_joined t group = motion_pieces t (codes "M2") (codes "R3") (codes "012.0") (label_text (source_in group)) (32 ∷ []) (10 ∷ [])
