-- A step more, and what it takes to go back.
use Rattle.std.proofs.Common.{◌≡◌, inl, inr, ℕ, zero, suc, ◌≤◌, Bool, true, false, List, [], ◌∷◌, ◌++◌, length, drop, refl, sym, ◌∙◌, ap, subst, arith, length-append, Vec}
use Rattle.std.specs.Prelude.{Option, cond, not, filter}
use Rattle.std.specs.declared.alloc.Global.{Global}
use Rattle.std.proofs.lemmas.Bool.{cases_Bool}
use Rattle.std.proofs.lemmas.List.{drop_all}
use Rattle.cf_base.specs.declared.file.FileId.{FileId}
use Rattle.cf_base.specs.FileId.{same_id, decide_id}
use Rattle.cf_base.proofs.FileIdLaws.{same_id_self, same_id_other}
use Rattle.reel_disk.specs.declared.disk.Place.{Place}
use Rattle.reel_disk.specs.declared.store.Step.{Step}
use Rattle.reel_disk.specs.declared.store.Step.TheVariants.{Loosened, Wrote, Patched, Synced}
use Rattle.reel_disk.specs.Disk.{Files, Moment, History, moment_of, view_of, loose_of, file_of, IsLoose, IsImage, Passes, IsStill, loosened, SameBut, IsLeftLoose, IsWritten, IsSettled, IsSynced, with_range, with_file}
use Rattle.reel_disk.specs.Memory.{content_of, undo, undo_all, view_before, put_back, history_from}
use Rattle.reel_disk.proofs.Images.{view_is_image, with_file_here, with_file_other}
use Rattle.reel_disk.proofs.Picks.{same_is, apart_is}

abbrev moment_at : Files → List Place → Moment
moment_at files loose = record { view = files; loose = loose }

pub moment_is : (files : Files) (loose : List Place) (steps : List Step) → moment_of (history_from files loose steps) ≡ record { view = files; loose = loose }
moment_is files loose steps = ap (λ (l : List Step). undo_all l (moment_at files loose)) (drop_all (length steps) steps (omega arith))

pub view_is : (files : Files) (loose : List Place) (steps : List Step) (id : FileId) → view_of (history_from files loose steps) id ≡ files id
view_is files loose steps id = ap (λ (m : Moment). m.view id) (moment_is files loose steps)

pub loose_is : (files : Files) (loose : List Place) (steps : List Step) → loose_of (history_from files loose steps) ≡ loose
loose_is files loose steps = ap (λ (m : Moment). m.loose) (moment_is files loose steps)

undo_all-append : (steps : List Step) (s : Step) (m : Moment) → undo_all (steps ++ s ∷ []) m ≡ undo_all steps (undo s m)
undo_all-append [] s m = refl
undo_all-append (t ∷ steps) s m = ap (undo t) (undo_all-append steps s m)

drop_push : (k : ℕ) (steps : List Step) (s : Step) → k ≤ length steps → drop k (steps ++ s ∷ []) ≡ drop k steps ++ s ∷ []
drop_push zero steps s le = refl
drop_push (suc k) [] s le = absurd (omega arith)
drop_push (suc k) (t ∷ steps) s le = drop_push k steps s (omega arith)

passes_step : (files files' : Files) (loose loose' : List Place) (steps : List Step) (s : Step) (between : Moment) → undo s (moment_at files' loose') ≡ moment_at files loose
    → Passes (history_from files loose steps) (history_from files' loose' (steps ++ s ∷ [])) between
passes_step files files' loose loose' steps s between back = record {
  later = omega (arith, length-append steps (s ∷ []));
  kept = λ m le. ap (λ (l : List Step). undo_all l (moment_at files' loose')) (drop_push m steps s le) ∙ undo_all-append (drop m steps) s (moment_at files' loose') ∙ ap (undo_all (drop m steps)) back;
  inside = λ m from to. absurd (omega (arith, from, to, length-append steps (s ∷ [])));
}

-- nothing changed
pub still : (files files' : Files) (loose loose' : List Place) (steps steps' : List Step) → ((q : FileId) → files' q ≡ files q) → loose' ≡ loose → steps' ≡ steps → IsStill (history_from files loose steps) (history_from files' loose' steps')
still files files' loose loose' steps steps' same same_loose same_steps =
    subst (λ (l : List Step). IsStill (history_from files loose steps) (history_from files' loose' l)) (sym same_steps)
    (subst (λ (l : List Place). IsStill (history_from files loose steps) (history_from files' l steps)) (sym same_loose)
    (record {
      passes = record { later = omega arith; kept = λ m le. alike m; inside = λ m from to. absurd (omega (arith, from, to)) };
      same = alike (length steps);
    }))
  where
    alike : (m : ℕ) → undo_all (drop m steps) (moment_at files' loose) ≡ undo_all (drop m steps) (moment_at files loose)
    alike m = ap (undo_all (drop m steps)) (λ i. record { view = λ q. same q i; loose = loose })

-- a write that was done
pub written : (files files' : Files) (loose : List Place) (steps : List Step) (place : Place) (s : Step) (content : Option (List ℕ)) → SameBut (file_of place) files files' → undo s (record { view = files'; loose = place ∷ loose }) ≡ record { view = files; loose = loose } → files' (file_of place) ≡ content
    → IsWritten (history_from files loose steps) (history_from files' (place ∷ loose) (steps ++ s ∷ [])) place content
written files files' loose steps place s content same back there = record {
  passes = passes_step files files' loose (place ∷ loose) steps s (loosened (moment_of (history_from files loose steps)) place) back;
  loose = loose_is files' (place ∷ loose) (steps ++ s ∷ []) ∙ ap (λ (l : List Place). place ∷ l) (sym (loose_is files loose steps));
  same = λ q other. view_is files' (place ∷ loose) (steps ++ s ∷ []) q ∙ same q other ∙ sym (view_is files loose steps q);
  there = view_is files' (place ∷ loose) (steps ++ s ∷ []) (file_of place) ∙ there;
}

-- a place became loose, and the files stayed
pub left_loose : (files : Files) (loose : List Place) (steps : List Step) (place : Place) → IsLeftLoose (history_from files loose steps) (history_from files (place ∷ loose) (steps ++ Loosened ∷ [])) place
left_loose files loose steps place =
    let view_same : view_of (history_from files (place ∷ loose) (steps ++ Loosened ∷ [])) ≡ view_of (history_from files loose steps) =
    ap (λ (m : Moment). m.view) (moment_is files (place ∷ loose) (steps ++ Loosened ∷ [])) ∙ sym (ap (λ (m : Moment). m.view) (moment_is files loose steps)) in
    record {
      passes = passes_step files files loose (place ∷ loose) steps Loosened (loosened (moment_of (history_from files loose steps)) place) refl;
      loose = loose_is files (place ∷ loose) (steps ++ Loosened ∷ []) ∙ ap (λ (l : List Place). place ∷ l) (sym (loose_is files loose steps));
      same = λ q other. ap (λ (v : Files). v q) view_same;
      outside = subst (λ (v : Files). IsImage (record { view = view_of (history_from files loose steps); loose = place ∷ [] }) v) (sym view_same) (view_is_image (record { view = view_of (history_from files loose steps); loose = place ∷ [] }));
    }

-- one file put back as it was
file_back : (files files' : Files) (id : FileId) (content : Option (List ℕ)) → content ≡ files id → SameBut id files files' → (q : FileId) → with_file id content files' q ≡ files q
file_back files files' id content was same q = elim (decide_id q id) [
  | inl here ↦ subst (λ (x : FileId). with_file id content files' x ≡ files x) (sym here) (with_file_here id content files' ∙ was)
  | inr other ↦ with_file_other id content files' q other ∙ same q other
]

-- the way back from a whole write
pub back_whole : (files files' : Files) (loose : List Place) (place : Place) (id : FileId) (before : Option (Vec ℕ Global)) → content_of before ≡ files id → SameBut id files files'
    → undo (Wrote id before) (record { view = files'; loose = place ∷ loose }) ≡ record { view = files; loose = loose }
back_whole files files' loose place id before was same = λ i. record { view = λ q. file_back files files' id (content_of before) was same q i; loose = loose }

-- the way back from a write of a part
pub back_part : (files files' : Files) (loose : List Place) (place : Place) (id : FileId) (start : ℕ) (bytes : List ℕ) (before : Vec ℕ Global) → files' id ≡ with_range (files id) start bytes → put_back (with_range (files id) start bytes) start before.items ≡ files id → SameBut id files files'
    → undo (Patched id start before) (record { view = files'; loose = place ∷ loose }) ≡ record { view = files; loose = loose }
back_part files files' loose place id start bytes before there was same =
    λ i. record { view = λ q. file_back files files' id (put_back (files' id) start before.items) (ap (λ (o : Option (List ℕ)). put_back o start before.items) there ∙ was) same q i; loose = loose }

-- the places of other files
first_kept : (f : Place → Bool) (q : Place) (places kept : List Place) (p : Place) → f q ≡ true → (IsLoose kept p → IsLoose places p × (f p ≡ true)) → IsLoose (q ∷ kept) p → IsLoose (q ∷ places) p × (f p ≡ true)
first_kept f q places kept p holds rest (inl here) = (inl here, ap f here ∙ holds)
first_kept f q places kept p holds rest (inr there) = (inr (rest there).0, (rest there).1)

kept_where : (f : Place → Bool) (places : List Place) (p : Place) → IsLoose (filter f places) p → IsLoose places p × (f p ≡ true)
kept_where f [] p there = absurd there
kept_where f (q ∷ places) p there = elim (cases_Bool (f q)) [
  | inl holds ↦ first_kept f q places (filter f places) p holds (kept_where f places p) (subst (λ (l : List Place). IsLoose l p) (ap (λ b. cond b (q ∷ filter f places) (filter f places)) holds) there)
  | inr fails ↦ let rest = kept_where f places p (subst (λ (l : List Place). IsLoose l p) (ap (λ b. cond b (q ∷ filter f places) (filter f places)) fails) there) in (inr rest.0, rest.1)
]

keeps_where : (f : Place → Bool) (places : List Place) (p : Place) → IsLoose places p → f p ≡ true → IsLoose (filter f places) p
keeps_where f [] p there holds = absurd there
keeps_where f (q ∷ places) p (inl here) holds = subst (λ (l : List Place). IsLoose l p) (sym (ap (λ b. cond b (q ∷ filter f places) (filter f places)) (sym (ap f here) ∙ holds))) (inl here)
keeps_where f (q ∷ places) p (inr there) holds = elim (cases_Bool (f q)) [
  | inl take ↦ subst (λ (l : List Place). IsLoose l p) (sym (ap (λ b. cond b (q ∷ filter f places) (filter f places)) take)) (inr (keeps_where f places p there holds))
  | inr leave ↦ subst (λ (l : List Place). IsLoose l p) (sym (ap (λ b. cond b (q ∷ filter f places) (filter f places)) leave)) (keeps_where f places p there holds)
]

settled : (id : FileId) (loose : List Place) → IsSettled id loose (filter (λ place. not (same_id (file_of place) id)) loose)
settled id loose = record {
  firm = λ p there same.
      let kept = kept_where (λ place. not (same_id (file_of place) id)) loose p there in
      let is : same_id (file_of p) id ≡ true = ap (λ (x : FileId). same_id x id) same ∙ same_id_self id in
      let no : not (same_id (file_of p) id) ≡ false = ap not is in
      cc;
  was = λ p there. (kept_where (λ place. not (same_id (file_of place) id)) loose p there).0;
  kept = λ p there other. keeps_where (λ place. not (same_id (file_of place) id)) loose p there (ap not (same_id_other (file_of p) id other));
}

-- a sync that was done
pub synced : (files : Files) (loose left : List Place) (steps : List Step) (id : FileId) (before : Vec Place Global) → before.items ≡ loose → left ≡ filter (λ place. not (same_id (file_of place) id)) loose
    → IsSynced (history_from files loose steps) (history_from files left (steps ++ Synced before ∷ [])) id
synced files loose left steps id before was filtered = record {
  passes = passes_step files files loose left steps (Synced before) (moment_of (history_from files loose steps)) (λ i. record { view = files; loose = was i });
  view = ap (λ (m : Moment). m.view) (moment_is files left (steps ++ Synced before ∷ [])) ∙ sym (ap (λ (m : Moment). m.view) (moment_is files loose steps));
  loose = subst (λ (l : List Place). IsSettled id l (loose_of (history_from files left (steps ++ Synced before ∷ [])))) (sym (loose_is files loose steps))
      (subst (λ (l : List Place). IsSettled id loose l) (sym (loose_is files left (steps ++ Synced before ∷ []) ∙ filtered)) (settled id loose));
}

-- what holds of the history from equal lists
pub from_to : (R : History → History → Type 0) (files₀ files : Files) (loose₀ loose : List Place) (steps₀ steps : List Step) (files' : Files) (loose' loose₂ : List Place) (steps' steps₂ : List Step)
    → files ≡ files₀ → loose ≡ loose₀ → steps ≡ steps₀ → loose₂ ≡ loose' → steps₂ ≡ steps' → R (history_from files loose steps) (history_from files' loose' steps') → R (history_from files₀ loose₀ steps₀) (history_from files' loose₂ steps₂)
from_to R files₀ files loose₀ loose steps₀ steps files' loose' loose₂ steps' steps₂ f l s l' s' holds =
    let old : history_from files loose steps ≡ history_from files₀ loose₀ steps₀ = λ i. history_from (f i) (l i) (s i) in
    let new : history_from files' loose' steps' ≡ history_from files' loose₂ steps₂ = λ i. history_from files' (sym l' i) (sym s' i) in
    subst (λ (h : History). R h (history_from files' loose₂ steps₂)) old (subst (λ (h : History). R (history_from files loose steps) h) new holds)

-- a file before a step
pub wrote_here : (file id : FileId) (before : Option (Vec ℕ Global)) (files : Files) → same_id file id ≡ true → view_before (Wrote file before) files id ≡ content_of before
wrote_here file id before files same = ap (λ (x : FileId). with_file x (content_of before) files id) (same_is file id same) ∙ with_file_here id (content_of before) files

pub wrote_elsewhere : (file id : FileId) (before : Option (Vec ℕ Global)) (files : Files) → same_id file id ≡ false → view_before (Wrote file before) files id ≡ files id
wrote_elsewhere file id before files other = with_file_other file (content_of before) files id (apart_is file id other)

pub patched_here : (file id : FileId) (start : ℕ) (before : Vec ℕ Global) (files : Files) → same_id file id ≡ true → view_before (Patched file start before) files id ≡ put_back (files id) start before.items
patched_here file id start before files same =
    ap (λ (x : FileId). with_file x (put_back (files x) start before.items) files id) (same_is file id same) ∙ with_file_here id (put_back (files id) start before.items) files

pub patched_elsewhere : (file id : FileId) (start : ℕ) (before : Vec ℕ Global) (files : Files) → same_id file id ≡ false → view_before (Patched file start before) files id ≡ files id
patched_elsewhere file id start before files other = with_file_other file (put_back (files file) start before.items) files id (apart_is file id other)
