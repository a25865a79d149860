-- What a loop has appended.
use Rattle.std.proofs.Common.{◌≡◌, ℕ, ◌+◌, List, [], ◌∷◌, ◌++◌, map, flat_map, ap, sym, ◌∙◌, append-nil}
use Rattle.std.proofs.lemmas.List.{append_assoc, map-append}
use Rattle.std.proofs.lemmas.List.Concat.{flat_map-append}
use Rattle.std.specs.List.{range_with_len}
use Rattle.cf_base.proofs.RangeLaws.{range_more}

-- each round appends a piece
pub piece_more : {X : Type 0} (piece : ℕ → List X) (front now new : List X) (i : ℕ) → now ≡ front ++ flat_map piece (range_with_len 0 i) → new ≡ now ++ piece i
    → new ≡ front ++ flat_map piece (range_with_len 0 (i + 1))
piece_more piece front now new i before appended =
    appended
    ∙ ap (λ l. l ++ piece i) before
    ∙ append_assoc front (flat_map piece (range_with_len 0 i)) (piece i)
    ∙ ap (λ l. front ++ l) (sym (ap (flat_map piece) (range_more i) ∙ flat_map-append piece (range_with_len 0 i) (i ∷ []) ∙ ap (λ l. flat_map piece (range_with_len 0 i) ++ l) (append-nil (piece i))))

-- each round appends one item
pub item_more : {X : Type 0} (item : ℕ → X) (front now new : List X) (i : ℕ) → now ≡ front ++ map item (range_with_len 0 i) → new ≡ now ++ item i ∷ []
    → new ≡ front ++ map item (range_with_len 0 (i + 1))
item_more item front now new i before appended =
    appended
    ∙ ap (λ l. l ++ item i ∷ []) before
    ∙ append_assoc front (map item (range_with_len 0 i)) (item i ∷ [])
    ∙ ap (λ l. front ++ l) (sym (ap (map item) (range_more i) ∙ map-append item (range_with_len 0 i) (i ∷ [])))
