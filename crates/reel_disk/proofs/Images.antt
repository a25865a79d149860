-- What the images of one moment are.
use Rattle.std.proofs.Common.{◌≡◌, ◌≢◌, inl, inr, ℕ, ◌+◌, ◌-◌, ◌<◌, ◌≤◌, List, [], ◌∷◌, length, get_or, refl, sym, ◌∙◌, ap, subst, arith, length-append, length-take, length-drop}
use Rattle.std.specs.Prelude.{Option, Some, None}
use Rattle.std.proofs.lemmas.Bool.{cases_lt}
use Rattle.std.proofs.lemmas.Grind.{same_number_lists, common_steps}
use Rattle.cf_base.specs.declared.file.FileId.{FileId}
use Rattle.cf_base.specs.FileId.{decide_id}
use Rattle.reel_disk.specs.declared.disk.Place.{Place}
use Rattle.reel_disk.specs.declared.disk.Place.TheVariants.{Whole, Range}
use Rattle.reel_disk.specs.Runs.{IsWithin}
use Rattle.reel_disk.specs.Disk.{Files, file_of, IsLoose, IsLooseAt, IsFirm, Moment, AgreesOutside, IsImage, loosened, SameBut, IsInFile, with_range, overwritten, IsSettled, with_file}

pub agrees_itself : (loose : List Place) (id : FileId) (content : Option (List ℕ)) → AgreesOutside loose id content content
agrees_itself loose id None = refl
agrees_itself loose id (Some bytes) = (bytes, refl, refl, λ k lt not_loose. refl)

-- the view is one of its own images
pub view_is_image : (moment : Moment) → IsImage moment moment.view
view_is_image moment id firm = agrees_itself moment.loose id (moment.view id)

-- where fewer places are loose
agrees_more : (few many : List Place) (id : FileId) (a b : Option (List ℕ)) → ((k : ℕ) → IsLooseAt few id k → IsLooseAt many id k) → AgreesOutside few id a b → AgreesOutside many id a b
agrees_more few many id None b more agrees = agrees
agrees_more few many id (Some bytes) b more agrees = (agrees.0, agrees.1, agrees.2, λ k lt not_loose. agrees.3 k lt (λ at. not_loose (more k at)))

agrees_along : (loose : List Place) (id : FileId) (a b c : Option (List ℕ)) → AgreesOutside loose id a b → AgreesOutside loose id b c → AgreesOutside loose id a c
agrees_along loose id None b c first second = subst (λ o. AgreesOutside loose id o c) first second
agrees_along loose id (Some bytes) b c first second =
    let then = subst (λ o. AgreesOutside loose id o c) first.1 second in
    (then.0, then.1, then.2 ∙ first.2, λ k lt not_loose. then.3 k (let e = first.2 in omega arith) not_loose ∙ first.3 k lt not_loose)

pub agrees_back : (loose : List Place) (id : FileId) (a b : Option (List ℕ)) → AgreesOutside loose id a b → AgreesOutside loose id b a
agrees_back loose id None b agrees = subst (λ o. AgreesOutside loose id o None) (sym agrees) refl
agrees_back loose id (Some bytes) b agrees =
    subst (λ o. AgreesOutside loose id o (Some bytes)) (sym agrees.1) (bytes, refl, sym agrees.2, λ k lt not_loose. sym (agrees.3 k (let e = agrees.2 in omega arith) not_loose))

-- of two views with the same places loose, each is an image of the other
pub image_back : (loose : List Place) (view other : Files) → IsImage (record { view = view; loose = loose }) other → IsImage (record { view = other; loose = loose }) view
image_back loose view other image id firm = agrees_back loose id (view id) (other id) (image id firm)

-- A firm file is in each image as in the view.
pub firm_image : (moment : Moment) (files : Files) (id : FileId) → IsFirm moment.loose id → IsImage moment files → files id ≡ moment.view id
firm_image moment files id firm image = same (moment.view id) (files id) (image id (λ loose. firm (Whole id) loose refl))
  where
    same : (a b : Option (List ℕ)) → AgreesOutside moment.loose id a b → b ≡ a
    same None b agrees = agrees
    same (Some bytes) b agrees =
        let left = agrees.0 in
        let is : left ≡ bytes = same_number_lists left bytes agrees.2 (λ k lt. agrees.3 k (let e = agrees.2 in omega arith) (λ at. firm (Range id at.0 at.1) at.2 refl)) in
        agrees.1 ∙ ap Some is

-- one place more is loose
pub firm_besides : (loose : List Place) (id : FileId) (place : Place) → IsFirm loose id → file_of place ≢ id → IsFirm (place ∷ loose) id
firm_besides loose id place firm other p (inl is) same = other (ap file_of (sym is) ∙ same)
firm_besides loose id place firm other p (inr there) same = firm p there same

pub within_loosened : (moment : Moment) (place : Place) → IsWithin moment (loosened moment place)
within_loosened moment place files image id firm =
    agrees_more moment.loose (place ∷ moment.loose) id (moment.view id) (files id) (λ k at. (at.0, at.1, inr at.2, at.3, at.4)) (image id (λ loose. firm (inr loose)))

-- a view that agrees with another one, with the same places loose
pub within_view : (view : Files) (moment : Moment) → IsImage (record { view = view; loose = moment.loose }) moment.view → IsWithin moment (record { view = view; loose = moment.loose })
within_view view moment agrees files image id firm = agrees_along moment.loose id (view id) (moment.view id) (files id) (agrees id firm) (image id firm)

-- places that are loose no more
pub within_settled : (view : Files) (few many : List Place) → ((p : Place) → IsLoose few p → IsLoose many p) → IsWithin (record { view = view; loose = few }) (record { view = view; loose = many })
within_settled view few many was files image id firm =
    agrees_more few many id (view id) (files id) (λ k at. (at.0, at.1, was (Range id at.0 at.1) at.2, at.3, at.4)) (image id (λ loose. firm (was (Whole id) loose)))

-- a file written whole
pub put_is_image : (view other : Files) (id : FileId) → SameBut id view other → IsImage (record { view = view; loose = Whole id ∷ [] }) other
put_is_image view other id same q firm = elim (decide_id q id) [
  | inl here ↦ absurd (firm (inl (ap Whole here)))
  | inr apart ↦ subst (λ o. AgreesOutside (Whole id ∷ []) q (view q) o) (sym (same q apart)) (agrees_itself (Whole id ∷ []) q (view q))
]

pub length-overwritten : (old : List ℕ) (start : ℕ) (bytes : List ℕ) → start + length bytes ≤ length old → length (overwritten old start bytes) ≡ length old
length-overwritten old start bytes fits = simp (length-append, length-take, length-drop) (omega arith)

pub before_overwritten : (old : List ℕ) (start : ℕ) (bytes : List ℕ) (k : ℕ) → start + length bytes ≤ length old → k < start → get_or (overwritten old start bytes) k 0 ≡ get_or old k 0
before_overwritten old start bytes k fits lt = grind (arith, common_steps)

pub inside_overwritten : (old : List ℕ) (start : ℕ) (bytes : List ℕ) (k : ℕ) → start + length bytes ≤ length old → start ≤ k → k < start + length bytes → get_or (overwritten old start bytes) k 0 ≡ get_or bytes (k - start) 0
inside_overwritten old start bytes k fits from lt = grind (arith, common_steps)

pub after_overwritten : (old : List ℕ) (start : ℕ) (bytes : List ℕ) (k : ℕ) → start + length bytes ≤ length old → start + length bytes ≤ k → get_or (overwritten old start bytes) k 0 ≡ get_or old k 0
after_overwritten old start bytes k fits le = grind (arith, common_steps)

-- a part of a file written
pub patch_is_image : (view other : Files) (id : FileId) (start : ℕ) (bytes : List ℕ) → SameBut id view other → IsInFile (view id) start (length bytes) → other id ≡ with_range (view id) start bytes → IsImage (record { view = view; loose = Range id start (length bytes) ∷ [] }) other
patch_is_image view other id start bytes same fits there q firm = elim (decide_id q id) [
  | inl here ↦ subst (λ (x : FileId). AgreesOutside loose x (view x) (other x)) (sym here) (subst (λ o. AgreesOutside loose id (view id) o) (sym there) (patched (view id) fits))
  | inr apart ↦ subst (λ o. AgreesOutside loose q (view q) o) (sym (same q apart)) (agrees_itself loose q (view q))
]
  where
    loose : List Place
    loose = Range id start (length bytes) ∷ []

    patched : (content : Option (List ℕ)) → IsInFile content start (length bytes) → AgreesOutside (Range id start (length bytes) ∷ []) id content (with_range content start bytes)
    patched None fits = absurd fits
    patched (Some old) fits = (
      overwritten old start bytes,
      refl,
      length-overwritten old start bytes fits,
      λ k lt not_loose.
          elim (cases_lt k start) [
            | inl before ↦ before_overwritten old start bytes k fits before
            | inr from ↦ elim (cases_lt k (start + length bytes)) [
              | inl inside ↦ absurd (not_loose (start, length bytes, inl refl, from, inside))
              | inr after ↦ after_overwritten old start bytes k fits after
            ]
          ],
    )

pub with_file_here : (id : FileId) (content : Option (List ℕ)) (files : Files) → with_file id content files id ≡ content
unfolding with_file
with_file_here id content files = elim (decide_id id id) as (λ d. elim d as (λ _. Option (List ℕ)) [ inl here ↦ content | inr apart ↦ files id ] ≡ content) [ inl here ↦ refl | inr apart ↦ absurd (apart refl) ]

pub with_file_other : (id : FileId) (content : Option (List ℕ)) (files : Files) (q : FileId) → q ≢ id → with_file id content files q ≡ files q
unfolding with_file
with_file_other id content files q other = elim (decide_id q id) as (λ d. elim d as (λ _. Option (List ℕ)) [ inl here ↦ content | inr apart ↦ files q ] ≡ files q) [ inl here ↦ absurd (other here) | inr apart ↦ refl ]

-- With the view's content back at the file of a place that became loose, an image is one from before.
pub restored : (moment : Moment) (place : Place) (files : Files) → IsImage (loosened moment place) files → IsImage moment (with_file (file_of place) (moment.view (file_of place)) files)
restored moment place files image q firm = elim (decide_id q (file_of place)) [
  | inl here ↦ subst (λ (x : FileId). AgreesOutside moment.loose x (moment.view x) (files_then x)) (sym here)
      (subst (λ o. AgreesOutside moment.loose (file_of place) (moment.view (file_of place)) o) (sym (with_file_here (file_of place) (moment.view (file_of place)) files)) (agrees_itself moment.loose (file_of place) (moment.view (file_of place))))
  | inr apart ↦ subst (λ o. AgreesOutside moment.loose q (moment.view q) o) (sym (with_file_other (file_of place) (moment.view (file_of place)) files q apart))
      (agrees_more (place ∷ moment.loose) moment.loose q (moment.view q) (files q) (fewer q apart) (image q (λ loose. firm (was q apart loose))))
]
  where
    files_then : Files
    files_then = with_file (file_of place) (moment.view (file_of place)) files

    was : (q : FileId) → q ≢ file_of place → IsLoose (place ∷ moment.loose) (Whole q) → IsLoose moment.loose (Whole q)
    was q apart (inl is) = absurd (apart (ap file_of is))
    was q apart (inr there) = there

    fewer : (q : FileId) → q ≢ file_of place → (k : ℕ) → IsLooseAt (place ∷ moment.loose) q k → IsLooseAt moment.loose q k
    fewer q apart k at = (at.0, at.1, elim at.2 [ inl is ↦ absurd (apart (ap file_of is)) | inr there ↦ there ], at.3, at.4)

-- A file of which one range alone may be loose has other bytes there alone.
pub range_image : (moment : Moment) (id : FileId) (start len : ℕ) (bytes : List ℕ) (files : Files) → moment.view id ≡ Some bytes → IsFirm moment.loose id → IsImage (loosened moment (Range id start len)) files
    → (left : List ℕ) × (files id ≡ Some left) × (length left ≡ length bytes) × ((k : ℕ) → k < length bytes → ((start ≤ k) × (k < start + len) → ⊥) → get_or left k 0 ≡ get_or bytes k 0)
range_image moment id start len bytes files is firm image =
    let agrees = subst (λ o. AgreesOutside (Range id start len ∷ moment.loose) id o (files id)) is (image id not_whole) in (
      agrees.0,
      agrees.1,
      agrees.2,
      λ k lt outside. agrees.3 k lt (λ at. elim at.2 [
        | inl same ↦
            let starts : at.0 ≡ start = cc in
            let lens : at.1 ≡ len = cc in
            outside (omega (arith, at.3, starts), omega (arith, at.4, starts, lens))
        | inr there ↦ firm (Range id at.0 at.1) there refl
      ]),
    )
  where
    not_whole : IsLoose (Range id start len ∷ moment.loose) (Whole id) → ⊥
    not_whole (inl same) = cc
    not_whole (inr there) = firm (Whole id) there refl

-- what a sync settles stays firm, and so does each other file
pub firm_settled : (id : FileId) (old new : List Place) → IsSettled id old new → (q : FileId) → IsFirm old q → IsFirm new q
firm_settled id old new settled q firm p there = firm p (settled.was p there)
