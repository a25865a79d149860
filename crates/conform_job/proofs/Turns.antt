-- One record frame after another: what the loop over them keeps.
use Rattle.std.proofs.Common.{◌≡◌, ℕ, ◌+◌, ◌-◌, ◌<◌, List, [], ◌++◌, sym, ap, subst, ◌∙◌, arith, Option}
use Rattle.std.specs.Prelude.{Some, None, IfSome}
use Rattle.cf_base.specs.declared.key.Key.{Key}
use Rattle.dpx_header.specs.declared.info.FrameInfo.{FrameInfo}
use Rattle.record_timeline.specs.Accepted.{frame_count}
use Rattle.record_timeline.specs.declared.Shot.{Shot}
use Rattle.scan_source.specs.World.{World, file_at}
use Rattle.conform_job.specs.declared.parts.JobParts.{JobParts}
use Rattle.conform_job.specs.declared.parts.JobFault.{JobFault}
use Rattle.conform_job.specs.Asks.{asks_at, asks_from, asks_of, asks_of_shot, shot_of_frame}
use Rattle.conform_job.specs.Refusals.{asks_refusal}
use Rattle.conform_job.specs.Answers.{IsRefusal, AreInfosOf, Grows}
use Rattle.conform_job.proofs.Asking.{none_then, refused_first, from_next, from_more}
use Rattle.conform_job.proofs.Growing.{grown_none, grown_both}

told_two : {A : Type 0} (told other : Option A) (P Q R : A → Type 0) → other ≡ told → ((a : A) → P a → Q a → R a) → IfSome told P → IfSome other Q → IfSome told R
told_two {A} told other P Q R same f h k = both told (subst (λ t. IfSome t Q) same k) h
  where
    both : (told : Option A) → IfSome told Q → IfSome told P → IfSome told R
    both None k h = tt
    both (Some a) k h = f a h k

told_all : {A : Type 0} (told : Option A) (P : A → Type 0) → ((a : A) → P a) → IfSome told P
told_all None P f = tt
told_all (Some a) P f = f a

module _ (p : JobParts) (told : Option World) where
  pub grown_start : (infos : List (Key × FrameInfo)) → infos ≡ [] → Grows p told [] [] infos
  unfolding AreInfosOf
  grown_start infos empty = rw empty (grown_none p told [] (λ key info e. absurd (none_some info e)))
    where
      none_some : {A : Type 0} (x : A) → ◌≡◌ {A = Option A} None (Some x) → ⊥
      none_some x h = cc

  pub rest_start : IfSome told (λ world. asks_refusal p (file_at world) (asks_of p.timeline) ≡ asks_refusal p (file_at world) (asks_from p.timeline 0 (frame_count p.timeline.events - 0)))
  unfolding asks_of
  rest_start = let all : frame_count p.timeline.events - 0 ≡ frame_count p.timeline.events = omega arith in told_all told _ (λ world. ap (λ n. asks_refusal p (file_at world) (asks_from p.timeline 0 n)) (sym all))

  pub grown_whole : (i : ℕ) (before after : List (Key × FrameInfo)) → i ≡ frame_count p.timeline.events → Grows p told (asks_from p.timeline 0 i) before after → Grows p told (asks_of p.timeline) before after
  unfolding asks_of
  grown_whole i before after all h = subst (λ n. Grows p told (asks_from p.timeline 0 n) before after) all h

  module _ (other : Option World) (same : other ≡ told) (i : ℕ) (shot : Shot) (lt : i < frame_count p.timeline.events) (shot_is : shot ≡ shot_of_frame p.timeline i) where
    asks_are : asks_of_shot shot ≡ asks_at p.timeline i
    asks_are = ap asks_of_shot shot_is

    left : asks_from p.timeline i (frame_count p.timeline.events - i) ≡ asks_of_shot shot ++ asks_from p.timeline (i + 1) (frame_count p.timeline.events - (i + 1))
    left =
        let fewer : frame_count p.timeline.events - i - 1 ≡ frame_count p.timeline.events - (i + 1) = omega arith in
        from_next p.timeline i (frame_count p.timeline.events - i) (omega (arith, lt)) ∙ ap (λ n. asks_at p.timeline i ++ asks_from p.timeline (i + 1) n) fewer
        ∙ ap (λ xs. xs ++ asks_from p.timeline (i + 1) (frame_count p.timeline.events - (i + 1))) (sym asks_are)

    pub refused_here : (why : JobFault) → IfSome told (λ world. asks_refusal p (file_at world) (asks_of p.timeline) ≡ asks_refusal p (file_at world) (asks_from p.timeline i (frame_count p.timeline.events - i)))
        → IfSome other (λ world. IsRefusal why (asks_refusal p (file_at world) (asks_of_shot shot))) → IfSome told (λ world. IsRefusal why (asks_refusal p (file_at world) (asks_of p.timeline)))
    refused_here why = told_two told other
        (λ world. asks_refusal p (file_at world) (asks_of p.timeline) ≡ asks_refusal p (file_at world) (asks_from p.timeline i (frame_count p.timeline.events - i)))
        (λ world. IsRefusal why (asks_refusal p (file_at world) (asks_of_shot shot))) (λ world. IsRefusal why (asks_refusal p (file_at world) (asks_of p.timeline))) same
        (λ world rest here. subst (IsRefusal why) (sym (rest ∙ ap (asks_refusal p (file_at world)) left))
        (refused_first p (file_at world) (asks_of_shot shot) (asks_from p.timeline (i + 1) (frame_count p.timeline.events - (i + 1))) why here))

    pub rest_next : IfSome told (λ world. asks_refusal p (file_at world) (asks_of p.timeline) ≡ asks_refusal p (file_at world) (asks_from p.timeline i (frame_count p.timeline.events - i)))
        → IfSome other (λ world. asks_refusal p (file_at world) (asks_of_shot shot) ≡ None)
        → IfSome told (λ world. asks_refusal p (file_at world) (asks_of p.timeline) ≡ asks_refusal p (file_at world) (asks_from p.timeline (i + 1) (frame_count p.timeline.events - (i + 1))))
    rest_next = told_two told other
        (λ world. asks_refusal p (file_at world) (asks_of p.timeline) ≡ asks_refusal p (file_at world) (asks_from p.timeline i (frame_count p.timeline.events - i)))
        (λ world. asks_refusal p (file_at world) (asks_of_shot shot) ≡ None)
        (λ world. asks_refusal p (file_at world) (asks_of p.timeline) ≡ asks_refusal p (file_at world) (asks_from p.timeline (i + 1) (frame_count p.timeline.events - (i + 1)))) same
        (λ world rest here. rest ∙ ap (asks_refusal p (file_at world)) left ∙ none_then p (file_at world) (asks_of_shot shot) (asks_from p.timeline (i + 1) (frame_count p.timeline.events - (i + 1))) here)

    pub grown_next : (a b c : List (Key × FrameInfo)) → Grows p told (asks_from p.timeline 0 i) a b → Grows p other (asks_of_shot shot) b c → Grows p told (asks_from p.timeline 0 (i + 1)) a c
    grown_next a b c first second =
        let now : Grows p told (asks_of_shot shot) b c = subst (λ t. Grows p t (asks_of_shot shot) b c) same second in
        let both = grown_both p told (asks_from p.timeline 0 i) (asks_of_shot shot) a b c first now in
        subst (λ xs. Grows p told xs a c) (sym (from_more p.timeline i ∙ ap (λ xs. asks_from p.timeline 0 i ++ xs) (sym asks_are))) both
