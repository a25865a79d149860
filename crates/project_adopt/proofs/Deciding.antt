-- Whether the files of a folder are sound can be decided.
use Rattle.std.proofs.Common.{◌≡◌, inl, inr, ℕ, zero, suc, ◌<◌, ◌≤◌, List, [], ◌∷◌, length, take, get_or, refl, sym, ◌∙◌, ap, subst, arith}
use Rattle.std.specs.Prelude.{◌⊎◌, Option, Some, None}
use Rattle.std.proofs.lemmas.Bool.{cases_eq, cases_lt}
use Rattle.sha2.specs.Sha256.{sha256}
use Rattle.cf_base.specs.declared.file.FileId.TheVariants.{Seal, Seal2, Body2}
use Rattle.reel_disk.specs.Disk.{Files}
use Rattle.resume_ledger.specs.declared.layout.Version.{Version}
use Rattle.resume_ledger.specs.declared.layout.Version.TheVariants.{One, Two}
use Rattle.resume_ledger.specs.Body.{layout_of, IsOwn, digest_of, head_of, record_of}
use Rattle.resume_ledger.specs.Ledger.{Acks, HasOwn, HasRecord, IsInForce}
use Rattle.resume_ledger.specs.Sound.{Reel, IsSound, IsSoundAt}

abbrev pub Decision : Type 0 → Type 0
Decision P = P ⊎ (P → ⊥)

as_well : {P Q : Type 0} → (P → Q) → (Q → P) → Decision P → Decision Q
as_well to from (inl is) = inl (to is)
as_well to from (inr not) = inr (λ q. not (from q))

both : {P Q : Type 0} → Decision P → Decision Q → Decision (P × Q)
both (inl p) (inl q) = inl (p, q)
both (inl p) (inr not) = inr (λ pq. not pq.1)
both (inr not) d = inr (λ pq. not pq.0)

never : {P : Type 0} → Decision P → Decision (P → ⊥)
never (inl p) = inr (λ not. not p)
never (inr not) = inl not

implied : {P Q : Type 0} → Decision P → Decision Q → Decision (P → Q)
implied (inl p) (inl q) = inl (λ _. q)
implied (inl p) (inr not) = inr (λ f. not (f p))
implied (inr not) d = inl (λ p. absurd (not p))

decide_list : (a b : List ℕ) → Decision (a ≡ b)
decide_list [] [] = inl refl
decide_list [] (y ∷ ys) = inr (λ e. cc)
decide_list (x ∷ xs) [] = inr (λ e. cc)
decide_list (x ∷ xs) (y ∷ ys) = as_well (λ same i. same.0 i ∷ same.1 i) (λ e. (let first : x ≡ y = cc in first, let rest : xs ≡ ys = cc in rest)) (both (cases_eq x y) (decide_list xs ys))

some_same : {a b : List ℕ} → Some a ≡ Some b → a ≡ b
some_same e = cc

decide_file : (content : Option (List ℕ)) (bytes : List ℕ) → Decision (content ≡ Some bytes)
decide_file None bytes = inr (λ e. cc)
decide_file (Some left) bytes = as_well (ap Some) some_same (decide_list left bytes)

decide_most : (a b : ℕ) → Decision (a ≤ b)
decide_most a b = elim (cases_lt b a) [ inl over ↦ inr (λ le. absurd (omega (arith, over, le))) | inr within ↦ inl within ]

decide_force : (version : Version) (files : Files) → Decision (IsInForce version files)
decide_force Two files = decide_file (files Seal2) (layout_of Two).mark
decide_force One files = both (never (decide_file (files Seal2) (layout_of Two).mark)) (decide_file (files Seal) (layout_of One).mark)

-- a body has one length for each number of frames
same_frames : (version : Version) (a b : ℕ) → (layout_of version).size a ≡ (layout_of version).size b → a ≡ b
same_frames One a b same = omega (arith, same)
same_frames Two a b same = omega (arith, same)

module _ (version : Version) (digest : List ℕ) (count : ℕ) where
  -- what an own body is, of its number of frames
  abbrev HasForm : List ℕ → Type 0
  HasForm body = (length body ≡ (layout_of version).size count) × ((length body ≤ (layout_of version).most)
      × ((take 64 body ≡ head_of (layout_of version) (digest_of body) count) × (digest_of body ≡ digest)))

  own_has : (body : List ℕ) → HasForm body → IsOwn (layout_of version) digest count body
  own_has body form = record {
    well = record { frames = count; size = form.0; no_longer = form.1.0; head = form.1.1.0 };
    job = form.1.1.1;
    size = form.0;
  }

  has_own : (body : List ℕ) → IsOwn (layout_of version) digest count body → HasForm body
  has_own body own =
      let frames = same_frames version own.well.frames count (sym own.well.size ∙ own.size) in
      (own.size, (own.well.no_longer, (subst (λ n. take 64 body ≡ head_of (layout_of version) (digest_of body) n) frames own.well.head, own.job)))

  decide_own : (body : List ℕ) → Decision (IsOwn (layout_of version) digest count body)
  decide_own body = as_well (own_has body) (has_own body)
      (both (cases_eq (length body) ((layout_of version).size count)) (both (decide_most (length body) (layout_of version).most)
      (both (decide_list (take 64 body) (head_of (layout_of version) (digest_of body) count)) (decide_list (digest_of body) digest))))

  -- the folder has an own body, in which the frame's gate is open
  abbrev HasOpen : ℕ → Files → Type 0
  HasOpen i files = (has : HasOwn version digest count files) × (get_or has.body ((layout_of version).gate i) 0 ≡ 65)

  decide_open : (i : ℕ) (files : Files) → Decision (HasOpen i files)
  decide_open i files = by (files (layout_of version).body) refl
    where
      by : (content : Option (List ℕ)) → files (layout_of version).body ≡ content → Decision (HasOpen i files)
      by None is = inr (λ has. let no : ◌≡◌ {A = Option (List ℕ)} None (Some has.0.body) = sym is ∙ has.0.there in cc)
      by (Some body) is = as_well
          (λ own. (record { body = body; there = is; own = own.0 }, own.1))
          (λ has. let same : has.0.body ≡ body = some_same (sym has.0.there ∙ is) in
          (subst (IsOwn (layout_of version) digest count) same has.0.own, subst (λ (b : List ℕ). get_or b ((layout_of version).gate i) 0 ≡ 65) same has.1))
          (both (decide_own body) (cases_eq (get_or body ((layout_of version).gate i) 0) 65))

module _ (digest : List ℕ) (count i : ℕ) (files : Files) (within : i < count) where
  acks_by : (version : Version) → IsInForce version files → HasOpen version digest count i files → Acks digest count i files
  acks_by version in_force has = record { version = version; in_force = in_force; has = has.0; within = within; gate = has.1 }

  decide_acks : Decision (Acks digest count i files)
  decide_acks = by (decide_force Two files) (decide_force One files)
    where
      -- one version counts at most
      of_two : IsInForce Two files → (HasOpen Two digest count i files → ⊥) → (v : Version) → IsInForce v files → HasOpen v digest count i files → ⊥
      of_two two shut Two in_force has = shut has
      of_two two shut One in_force has = in_force.0 two

      of_one : (IsInForce Two files → ⊥) → (HasOpen One digest count i files → ⊥) → (v : Version) → IsInForce v files → HasOpen v digest count i files → ⊥
      of_one not_two shut Two in_force has = not_two in_force
      of_one not_two shut One in_force has = shut has

      of_none : (IsInForce Two files → ⊥) → (IsInForce One files → ⊥) → (v : Version) → IsInForce v files → ⊥
      of_none not_two not_one Two in_force = not_two in_force
      of_none not_two not_one One in_force = not_one in_force

      by : Decision (IsInForce Two files) → Decision (IsInForce One files) → Decision (Acks digest count i files)
      by (inl two) one = elim (decide_open Two digest count i files) [
        | inl has ↦ inl (acks_by Two two has)
        | inr shut ↦ inr (λ acks. of_two two shut acks.version acks.in_force (acks.has, acks.gate))
      ]
      by (inr not_two) (inl one) = elim (decide_open One digest count i files) [
        | inl has ↦ inl (acks_by One one has)
        | inr shut ↦ inr (λ acks. of_one not_two shut acks.version acks.in_force (acks.has, acks.gate))
      ]
      by (inr not_two) (inr not_one) = inr (λ acks. of_none not_two not_one acks.version acks.in_force)

decide_record : (i : ℕ) (hash : List ℕ) (files : Files) → Decision (HasRecord i hash files)
decide_record i hash files = by (files Body2) refl
  where
    by : (content : Option (List ℕ)) → files Body2 ≡ content → Decision (HasRecord i hash files)
    by None is = inr (λ has. let no : ◌≡◌ {A = Option (List ℕ)} None (Some has.body) = sym is ∙ has.there in cc)
    by (Some body) is = as_well
        (λ same. record { body = body; there = is; is = same })
        (λ has. let same : has.body ≡ body = some_same (sym has.there ∙ is) in subst (λ (b : List ℕ). record_of b i ≡ hash) same has.is)
        (decide_list (record_of body i) hash)

decide_sound_at : (reel : Reel) (i : ℕ) (files : Files) → Decision (IsSoundAt reel i files)
decide_sound_at reel i files = as_well
    (λ both. record { file = both.0; hash = both.1 })
    (λ sound. (sound.file, sound.hash))
    (both (decide_file (files (reel i).0) (reel i).1) (implied (decide_force Two files) (decide_record i (sha256 (reel i).1) files)))

pub decide_sound : (digest : List ℕ) (count : ℕ) (reel : Reel) (files : Files) → Decision (IsSound digest count reel files)
decide_sound digest count reel files = as_well
    (λ each i acks. each i acks.within acks)
    (λ sound i lt acks. sound i acks)
    (within count (λ i. Acks digest count i files) (λ i. IsSoundAt reel i files) (λ i lt. decide_acks digest count i files lt) (λ i. decide_sound_at reel i files))
  where
    -- each number below the count that has A has B
    within : (n : ℕ) (A B : ℕ → Type 0) → ((i : ℕ) → i < n → Decision (A i)) → ((i : ℕ) → Decision (B i)) → Decision ((i : ℕ) → i < n → A i → B i)
    within zero A B a b = inl (λ i lt. absurd (omega (arith, lt)))
    within (suc n) A B a b = step (within n A B (λ i lt. a i (omega (arith, lt))) b) (implied (a n (omega arith)) (b n))
      where
        step : Decision ((i : ℕ) → i < n → A i → B i) → Decision (A n → B n) → Decision ((i : ℕ) → i < suc n → A i → B i)
        step (inl all) (inl last) = inl (λ i lt. elim (cases_lt i n) [
          | inl before ↦ all i before
          | inr past ↦ let is : n ≡ i = omega (arith, lt, past) in subst (λ k. A k → B k) is last
        ])
        step (inl all) (inr not) = inr (λ every. not (every n (omega arith)))
        step (inr not) d = inr (λ every. not (λ i lt. every i (omega (arith, lt))))
