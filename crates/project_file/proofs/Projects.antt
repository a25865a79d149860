-- What the steps of reading a project come to.
use Rattle.std.proofs.Common.{◌≡◌, ◌∙◌, ap, refl, sym, ℕ, List, [], ◌∷◌, ◌++◌, length, suc, map, drop, get_or, true, false, None, Result, Ok, Err, Bor, ◌+◌, ◌<◌, ◌≤◌, append_assoc, append-nil}
use Rattle.std.specs.Str.{bytes_eq}
use Rattle.std.specs.List.{All}
use Rattle.std.proofs.lemmas.List.{drop_all, drop_more}
use Rattle.toml.specs.View.{items_view, view}
use Rattle.toml.proofs.Views.{items_view-drop}
use Rattle.toml.specs.declared.value.Value.{Value}
use Rattle.cf_base.specs.declared.reel.ReelEntry.{ReelEntry}
use Rattle.cf_base.specs.declared.timing.Rate.{Rate}
use Rattle.cf_base.specs.Text.{path_text_of}
use Rattle.cf_base.specs.Steps.{◌>>=◌}
use Rattle.project_file.specs.Keys.{count_items, text_at}
use Rattle.project_file.specs.Projects.{is_among, knows_reel, knows_reels, paths_of, reel_at, reels_from, rgb_of, top, IsReelInRange}
use Rattle.project_file.specs.declared.fault.ProjectFault.{ProjectFault}

pub not_three : (vs : List Value) → (length vs ≡ 3 → ⊥) → None ≡ rgb_of (items_view vs)
not_three [] h = refl
not_three (a ∷ []) h = refl
not_three (a ∷ b ∷ []) h = refl
not_three (a ∷ b ∷ c ∷ []) h = absurd (h refl)
not_three (a ∷ b ∷ c ∷ d ∷ vs) h = refl

pub count_view : (vs : List Value) → count_items (items_view vs) ≡ length vs
count_view [] = refl
count_view (v ∷ vs) = ap suc (count_view vs)

-- ---- names

pub among_found : (names : List (Bor (List ℕ))) (i : ℕ) (d : Bor (List ℕ)) (key : List ℕ) → i < length names → bytes_eq (get_or names i d).now key ≡ true
    → is_among (map (λ n. n.now) (drop i names)) key ≡ true
among_found names i d key h e = rw (drop_more names i d h, e) refl

pub among_passed : (names : List (Bor (List ℕ))) (i : ℕ) (d : Bor (List ℕ)) (key : List ℕ) → i < length names → bytes_eq (get_or names i d).now key ≡ false
    → is_among (map (λ n. n.now) (drop (i + 1) names)) key ≡ is_among (map (λ n. n.now) (drop i names)) key
among_passed names i d key h e = rw (drop_more names i d h, e) refl

-- ---- reels in turn

abbrev pub prefixed : {A : Type 0} → List A → Result (List A) ProjectFault → Result (List A) ProjectFault
prefixed done (Ok others) = Ok (done ++ others)
prefixed done (Err e) = Err e

-- what stands after some reels: their number, what is left to read, and the range of each
pub record ReelsSoFar (rate : Rate) (values : List Value) (index next : ℕ) (done : List ReelEntry) : Type 0 where
  pub number : next ≡ index + 1
  pub rest : reels_from rate 1 (items_view values) ≡ prefixed done (reels_from rate next (items_view (drop index values)))
  pub range : All IsReelInRange done
  pub count : length done ≡ index

one_more : {A : Type 0} (done : List A) (e : A) (r : Result (List A) ProjectFault) → prefixed done (r >>= (λ others. Ok (e ∷ others))) ≡ prefixed (done ++ e ∷ []) r
one_more done e (Ok others) = ap (λ l. Ok l) (sym (append_assoc done (e ∷ []) others))
one_more done e (Err f) = refl

pub reel_taken : (whole : Result (List ReelEntry) ProjectFault) (done : List ReelEntry) (rate : Rate) (n : ℕ) (vs : List Value) (i : ℕ) (v : Value) (e : ReelEntry)
    → i < length vs → get_or vs i v ≡ v → reel_at rate n (view v) ≡ Ok e
    → whole ≡ prefixed done (reels_from rate n (items_view (drop i vs)))
    → whole ≡ prefixed (done ++ e ∷ []) (reels_from rate (n + 1) (items_view (drop (i + 1) vs)))
reel_taken whole done rate n vs i v e h at read same =
    let here : reels_from rate n (items_view (drop i vs)) ≡ (reels_from rate (n + 1) (items_view (drop (i + 1) vs)) >>= (λ others. Ok (e ∷ others))) =
    rw (items_view-drop vs i v h, at, read) refl in
    same ∙ ap (prefixed done) here ∙ one_more done e (reels_from rate (n + 1) (items_view (drop (i + 1) vs)))

pub reel_refused : (whole : Result (List ReelEntry) ProjectFault) (done : List ReelEntry) (rate : Rate) (n : ℕ) (vs : List Value) (i : ℕ) (v : Value) (f : ProjectFault)
    → i < length vs → get_or vs i v ≡ v → reel_at rate n (view v) ≡ Err f
    → whole ≡ prefixed done (reels_from rate n (items_view (drop i vs))) → whole ≡ Err f
reel_refused whole done rate n vs i v f h at read same =
    let here : reels_from rate n (items_view (drop i vs)) ≡ Err f = rw (items_view-drop vs i v h, at, read) refl in
    same ∙ ap (prefixed done) here

pub reels_end : (whole : Result (List ReelEntry) ProjectFault) (done : List ReelEntry) (rate : Rate) (n : ℕ) (vs : List Value) (i : ℕ) → length vs ≤ i
    → whole ≡ prefixed done (reels_from rate n (items_view (drop i vs))) → whole ≡ Ok done
reels_end whole done rate n vs i h same = same ∙ rw (drop_all i vs h) (ap (λ l. Ok l) (append-nil done))

-- ---- cuts in turn

-- what stands after some cuts: what is left to read, and their number
pub record PathsSoFar (values : List Value) (index : ℕ) (done : List (List ℕ)) : Type 0 where
  pub rest : paths_of (items_view values) ≡ prefixed done (paths_of (items_view (drop index values)))
  pub count : length done ≡ index

pub path_taken : (whole : Result (List (List ℕ)) ProjectFault) (done : List (List ℕ)) (vs : List Value) (i : ℕ) (v : Value) (path : List ℕ)
    → i < length vs → get_or vs i v ≡ v → text_at (top 16) path_text_of (view v) ≡ Ok path
    → whole ≡ prefixed done (paths_of (items_view (drop i vs)))
    → whole ≡ prefixed (done ++ path ∷ []) (paths_of (items_view (drop (i + 1) vs)))
path_taken whole done vs i v path h at read same =
    let here : paths_of (items_view (drop i vs)) ≡ (paths_of (items_view (drop (i + 1) vs)) >>= (λ others. Ok (path ∷ others))) =
    rw (items_view-drop vs i v h, at, read) refl in
    same ∙ ap (prefixed done) here ∙ one_more done path (paths_of (items_view (drop (i + 1) vs)))

pub path_refused : (whole : Result (List (List ℕ)) ProjectFault) (done : List (List ℕ)) (vs : List Value) (i : ℕ) (v : Value) (f : ProjectFault)
    → i < length vs → get_or vs i v ≡ v → text_at (top 16) path_text_of (view v) ≡ Err f
    → whole ≡ prefixed done (paths_of (items_view (drop i vs))) → whole ≡ Err f
path_refused whole done vs i v f h at read same =
    let here : paths_of (items_view (drop i vs)) ≡ Err f = rw (items_view-drop vs i v h, at, read) refl in
    same ∙ ap (prefixed done) here

pub paths_end : (whole : Result (List (List ℕ)) ProjectFault) (done : List (List ℕ)) (vs : List Value) (i : ℕ) → length vs ≤ i
    → whole ≡ prefixed done (paths_of (items_view (drop i vs))) → whole ≡ Ok done
paths_end whole done vs i h same = same ∙ rw (drop_all i vs h) (ap (λ l. Ok l) (append-nil done))

-- ---- unknown keys in turn

pub known_taken : (n : ℕ) (vs : List Value) (i : ℕ) (v : Value) → i < length vs → get_or vs i v ≡ v → knows_reel n (view v) ≡ Ok tt
    → knows_reels n (items_view (drop i vs)) ≡ knows_reels (n + 1) (items_view (drop (i + 1) vs))
known_taken n vs i v h at read = rw (items_view-drop vs i v h, at, read) refl

pub known_refused : (n : ℕ) (vs : List Value) (i : ℕ) (v : Value) (f : ProjectFault) → i < length vs → get_or vs i v ≡ v → knows_reel n (view v) ≡ Err f
    → knows_reels n (items_view (drop i vs)) ≡ Err f
known_refused n vs i v f h at read = rw (items_view-drop vs i v h, at, read) refl

pub known_end : (n : ℕ) (vs : List Value) (i : ℕ) → length vs ≤ i → knows_reels n (items_view (drop i vs)) ≡ Ok tt
known_end n vs i h = rw (drop_all i vs h) refl
