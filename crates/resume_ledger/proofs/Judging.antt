-- What the head of a body says of a job.
use Rattle.std.proofs.Common.{◌≡◌, ◌≢◌, ℕ, Bool, true, false, not, nat_eq, List, length, take, refl, sym, ◌∙◌, ap, subst, arith}
use Rattle.std.specs.Prelude.{Some}
use Rattle.std.specs.Cmp.Lexicographic.{pointwise, same_text}
use Rattle.std.proofs.lemmas.Bool.{false≢true}
use Rattle.std.proofs.lemmas.Cmp.{nat_list_eq_equiv}
use Rattle.resume_ledger.specs.declared.layout.Version.{Version}
use Rattle.resume_ledger.specs.declared.layout.Version.TheVariants.{One, Two}
use Rattle.resume_ledger.specs.Body.{layout_of, IsWellFormed, head_of, digest_of}
use Rattle.resume_ledger.specs.Attach.{IsBad}
use Rattle.resume_ledger.proofs.Bodies.{some_same}

-- what a test by `!=` says of two texts
pub tested_apart : (xs ys : List ℕ) (test : Bool) → test ≡ not (pointwise nat_eq xs ys) → test ≡ true → xs ≢ ys
tested_apart xs ys test is so same =
    let equal : not (pointwise nat_eq xs ys) ≡ false = ap not (ap (λ l. pointwise nat_eq l ys) same ∙ nat_list_eq_equiv.refl ys) in
    false≢true (sym equal ∙ sym is ∙ so)

true_by_not : (b : Bool) → not b ≡ false → b ≡ true
true_by_not true is = refl
true_by_not false is = absurd (false≢true (sym is))

pub tested_same : (xs ys : List ℕ) (test : Bool) → test ≡ not (pointwise nat_eq xs ys) → test ≡ false → xs ≡ ys
tested_same xs ys test is not_so = same_text xs ys (sym (true_by_not (pointwise nat_eq xs ys) (sym is ∙ not_so)))

-- a body's length says for how many frames it is
same_frames : (version : Version) (n m : ℕ) → (layout_of version).size n ≡ (layout_of version).size m → n ≡ m
same_frames One n m same = omega (arith, same)
same_frames Two n m same = omega (arith, same)

-- a body whose head doesn't fit its digest and its length
pub bad_head : (version : Version) (digest : List ℕ) (count : ℕ) (body : List ℕ) (frames : ℕ) → length body ≡ (layout_of version).size frames → take 64 body ≢ head_of (layout_of version) (digest_of body) frames
    → IsBad (layout_of version) digest count (length body) (Some body)
bad_head version digest count body frames exact differ = record {
  size = refl;
  bad = λ other is well.
      let here : IsWellFormed (layout_of version) body = subst (IsWellFormed (layout_of version)) (sym (some_same is)) well in
      let same : here.frames ≡ frames = same_frames version here.frames frames (sym here.size ∙ exact) in
      absurd (differ (here.head ∙ ap (head_of (layout_of version) (digest_of body)) same));
}
