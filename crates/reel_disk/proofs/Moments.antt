-- How a run of calls goes on.
use Rattle.std.proofs.Common.{◌≡◌, inl, inr, ℕ, ◌≤◌, refl, sym, ◌∙◌, subst, arith}
use Rattle.std.proofs.lemmas.Bool.{cases_lt}
use Rattle.std.proofs.Math.Nat.{eq-or-lt_of_le}
use Rattle.reel_disk.specs.Disk.{Files, Moment, IsImage, History, moment_of, Passes}
use Rattle.reel_disk.specs.Runs.{Extends, LeavesOnly, Surely, NeverForgets}

pub extends_itself : (h : History) → Extends h h
extends_itself h = record { later = omega arith; kept = λ m le. refl }

pub extends_along : (old mid new : History) → Extends old mid → Extends mid new → Extends old new
extends_along old mid new first second = record {
  later = omega (arith, first.later, second.later);
  kept = λ m le. second.kept m (omega (arith, le, first.later)) ∙ first.kept m le;
}

pub passes_extends : (old new : History) (between : Moment) → Passes old new between → Extends old new
passes_extends old new between passes = record { later = passes.later; kept = passes.kept }

-- A moment of the new history is one of the old, or on the way, or the last.
pub when : (old new : History) (between : Moment) (Q : Moment → Type 0) (m : ℕ) → Passes old new between → old.now ≤ m → m ≤ new.now → Q (moment_of old) → Q between → Q (moment_of new) → Q (new.past m)
when old new between Q m passes from to before during after =
    elim (eq-or-lt_of_le from) [
      | inl first ↦ subst (λ (n : ℕ). Q (new.past n)) first (subst Q (sym (passes.kept old.now (omega arith))) before)
      | inr late ↦ elim (eq-or-lt_of_le to) [
        | inl last ↦ subst (λ (n : ℕ). Q (new.past n)) (sym last) after
        | inr early ↦ subst Q (sym (passes.inside m late early)) during
      ]
    ]

module _ (P : Files → Type 0) where
  pub leaves_start : (h : History) → Surely (moment_of h) P → LeavesOnly h h P
  leaves_start h here m from to files image =
      let now : m ≡ h.now = omega (arith, from, to) in
      here files (subst (λ (n : ℕ). IsImage (h.past n) files) now image)

  pub leaves_along : (old mid new : History) → Extends mid new → LeavesOnly old mid P → LeavesOnly mid new P → LeavesOnly old new P
  leaves_along old mid new extends first second m from to files image =
      elim (cases_lt m mid.now) [
        | inl early ↦ let le : m ≤ mid.now = omega (arith, early) in first m from le files (subst (λ (x : Moment). IsImage x files) (extends.kept m le) image)
        | inr late ↦ second m late to files image
      ]

  pub keeps_start : (h : History) → NeverForgets h h P
  keeps_start h m later from le to had =
      let same : m ≡ later = omega (arith, from, le, to) in
      subst (λ (n : ℕ). Surely (h.past n) P) same had

  pub keeps_along : (old mid new : History) → Extends old mid → Extends mid new → NeverForgets old mid P → NeverForgets mid new P → NeverForgets old new P
  keeps_along old mid new reaches extends first second m later from le to had =
      elim (cases_lt mid.now m) [
        | inl both ↦ second m later (omega (arith, both)) le to had
        | inr early ↦
            let was : Surely (mid.past m) P = subst (λ (x : Moment). Surely x P) (extends.kept m early) had in
            elim (cases_lt mid.now later) [
              | inl late ↦
                  let kept : Surely (new.past mid.now) P = subst (λ (x : Moment). Surely x P) (sym (extends.kept mid.now (omega arith))) (first m mid.now from early (omega arith) was) in
                  second mid.now later (omega arith) (omega (arith, late)) to kept
              | inr none ↦ subst (λ (x : Moment). Surely x P) (sym (extends.kept later none)) (first m later from le none was)
            ]
      ]
