-- The pull list of a job from its pieces.
use Rattle.std.proofs.Common.{◌≡◌, ℕ, ◌-◌, List, [], ◌∷◌, ◌++◌, length, codes, refl}
use Rattle.std.specs.Prelude.{decimal}
use Rattle.std.specs.List.{flat_map, sum_by}
use Rattle.std.proofs.lemmas.List.{append_assoc}
use Rattle.cf_base.specs.declared.reel.ReelEntry.{ReelEntry}
use Rattle.cf_base.specs.declared.timing.Mode.{Mode}
use Rattle.cf_base.specs.declared.timing.Rate.{Rate}
use Rattle.pull_list.specs.declared.range.PullRange.{PullRange}
use Rattle.printed_text.specs.Text.{spaced_line}
use Rattle.printed_tables.specs.Pull.{line_at, mode_of, pull_of, range_line, size_of}
use Rattle.printed_tables.specs.Table.{label_word}

joined : (t n a b k : List ℕ) → t ++ n ++ 32 ∷ [] ++ a ++ 32 ∷ [] ++ b ++ 32 ∷ [] ++ k ++ 10 ∷ [] ≡ t ++ spaced_line (n ∷ a ∷ b ∷ k ∷ [])
joined t n a b k = simp append_assoc refl

pub range_joined : (t : List ℕ) (rate : Rate) (mode : Mode) (e : ReelEntry) (range : PullRange) → mode ≡ mode_of e
    → t ++ e.name ++ 32 ∷ [] ++ label_word rate mode range.start ++ 32 ∷ [] ++ label_word rate mode (range.end - 1) ++ 32 ∷ [] ++ decimal (range.end - range.start) ++ 10 ∷ []
    ≡ t ++ range_line rate range e
unfolding range_line
range_joined t rate mode e range is = rw is (joined t e.name _ _ _)

closed : (lines count frames : List ℕ) → lines ++ codes "ranges " ++ count ++ codes " frames " ++ frames ++ 10 ∷ [] ≡ lines ++ spaced_line (codes "ranges" ∷ count ∷ codes "frames" ∷ frames ∷ [])
closed lines count frames = simp append_assoc refl

pub pull_joined : (rate : Rate) (entries : List ReelEntry) (ranges first counted summed : List PullRange) (text : List ℕ) → text ≡ flat_map (line_at rate entries) first → first ≡ ranges → counted ≡ ranges → summed ≡ ranges
    → text ++ codes "ranges " ++ decimal (length counted) ++ codes " frames " ++ decimal (sum_by size_of summed) ++ 10 ∷ [] ≡ pull_of rate entries ranges
unfolding pull_of
pull_joined rate entries ranges first counted summed text lines all number sum =
    rw (lines, all, number, sum) (closed (flat_map (line_at rate entries) ranges) (decimal (length ranges)) (decimal (sum_by size_of ranges)))
