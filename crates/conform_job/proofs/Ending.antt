-- How a plan ends at an ask: some asks before it, and others behind.
use Rattle.std.proofs.Common.{◌≡◌, ◌∙◌, ℕ, zero, suc, ◌+◌, ◌-◌, ◌<◌, List, [], ◌∷◌, ◌++◌, length, Option, refl, sym, ap, subst, arith, append_assoc}
use Rattle.std.specs.Prelude.{Some, None, IfSome, IfErr, Result, Ok, Err}
use Rattle.cf_base.specs.declared.key.Key.{Key}
use Rattle.dpx_header.specs.declared.info.FrameInfo.{FrameInfo}
use Rattle.record_timeline.specs.Accepted.{RecordReel, frame_count}
use Rattle.record_timeline.specs.declared.Shot.{Shot}
use Rattle.scan_source.specs.World.{World, file_at}
use Rattle.source_reels.specs.Reels.{path_of_key}
use Rattle.conform_job.specs.declared.frames.Ask.{Ask}
use Rattle.conform_job.specs.declared.frames.Named.{Named}
use Rattle.conform_job.specs.declared.parts.JobParts.{JobParts}
use Rattle.conform_job.specs.declared.parts.JobFault.{JobFault}
use Rattle.conform_job.specs.declared.parts.JobFault.TheVariants as fault
use Rattle.conform_job.specs.Answers.{AreInfosOf, Grows, HeadsGrow, IsOfFrame, IsRefusal, count_after}
use Rattle.conform_job.specs.Asks.{asks_at, asks_from, asks_of, asks_of_shot, shot_of_frame}
use Rattle.conform_job.specs.Cuts.{bad_cut}
use Rattle.conform_job.specs.Ended.{EndAt, HasAsked, head_count, path_count}
use Rattle.conform_job.specs.Keys.{key_of_ask}
use Rattle.conform_job.specs.inside.Lines.{IsCutUnless, IsPlacedUnless}
use Rattle.conform_job.specs.Refusals.{asks_refusal, name_of_ask}
use Rattle.conform_job.proofs.Growing.{grown_none, grown_both}
use Rattle.conform_job.proofs.Heads.{heads_same, heads_both}

-- want of memory may come at any ask
no_memory : (told : Option World) (first : World → Option JobFault) → IfSome told (λ world. IsRefusal fault.NoMemory (first world))
no_memory None first = tt
no_memory (Some world) first = tt

module _ (p : JobParts) (told : Option World) where
  pub ended_one : (ask : Ask) (infos : List (Key × FrameInfo)) (before after : ℕ) (why : JobFault) → AreInfosOf p told infos → after ≡ count_after (head_count p ask) before
      → IsOfFrame (name_of_ask p.timeline.events ask) why → IfSome told (λ world. IsRefusal why (asks_refusal p (file_at world) (ask ∷ []))) → EndAt p told (ask ∷ []) infos before after why
  ended_one ask infos before after why each own named refused = record {
    passed = [];
    ask = ask;
    others = [];
    split = refl;
    named = named;
    refused = refused;
    kept = infos;
    grows = grown_none p told infos each;
    middle = before;
    heads = heads_same (length infos) before;
    own = own;
  }

  pub ended_first : (xs ys : List Ask) (infos : List (Key × FrameInfo)) (before after : ℕ) (why : JobFault) → EndAt p told xs infos before after why → EndAt p told (xs ++ ys) infos before after why
  ended_first xs ys infos before after why e = record {
    passed = e.passed;
    ask = e.ask;
    others = e.others ++ ys;
    split = ap (λ zs. zs ++ ys) e.split ∙ append_assoc e.passed (e.ask ∷ e.others) ys;
    named = e.named;
    refused = e.refused;
    kept = e.kept;
    grows = e.grows;
    middle = e.middle;
    heads = e.heads;
    own = e.own;
  }

  pub ended_then : (xs ys : List Ask) (infos mid : List (Key × FrameInfo)) (before between after : ℕ) (why : JobFault) → Grows p told xs infos mid → HeadsGrow before between (length infos) (length mid)
      → EndAt p told ys mid between after why → EndAt p told (xs ++ ys) infos before after why
  ended_then xs ys infos mid before between after why grows heads e = record {
    passed = xs ++ e.passed;
    ask = e.ask;
    others = e.others;
    split = ap (λ zs. xs ++ zs) e.split ∙ sym (append_assoc xs e.passed (e.ask ∷ e.others));
    named = e.named;
    refused = e.refused;
    kept = e.kept;
    grows = grown_both p told xs e.passed infos mid e.kept grows e.grows;
    middle = e.middle;
    heads = heads_both before between e.middle (length infos) (length mid) (length e.kept) heads e.heads;
    own = e.own;
  }

  pub ended_memory : (ask : Ask) (infos : List (Key × FrameInfo)) (before after : ℕ) (why : JobFault) → AreInfosOf p told infos → after ≡ count_after (head_count p ask) before
      → why ≡ fault.NoMemory → EndAt p told (ask ∷ []) infos before after why
  ended_memory ask infos before after why each own is = subst (EndAt p told (ask ∷ []) infos before after) (sym is)
      (ended_one ask infos before after fault.NoMemory each own tt (no_memory told (λ world. asks_refusal p (file_at world) (ask ∷ []))))

  pub ended_none : (ask : Ask) (n : ℕ) → None ≡ key_of_ask p.reels p.timeline.events ask → n ≡ count_after (head_count p ask) n
  ended_none ask n is = rw (← is) refl

  pub ended_key : (ask : Ask) (key : Key) (before after : ℕ) → Some key ≡ key_of_ask p.reels p.timeline.events ask → after ≡ count_after (path_count (path_of_key p.reels key)) before
      → after ≡ count_after (head_count p ask) before
  ended_key ask key before after is asked = rw (← is) asked

  -- a source frame without a file, and a fault of the one that the frame is named by
  pub named_missing : (ask : Ask) (named : Named) (why : JobFault) → name_of_ask p.timeline.events ask ≡ Some named → why ≡ fault.MissingFrame named.line named.reel named.source
      → IsOfFrame (name_of_ask p.timeline.events ask) why
  named_missing ask named why name is = rw (is, name) refl

  pub named_same : (ask : Ask) (named : Named) (why : JobFault) → name_of_ask p.timeline.events ask ≡ Some named → IsOfFrame (Some named) why
      → IsOfFrame (name_of_ask p.timeline.events ask) why
  named_same ask named why name is = rw name is

  -- each fault of the frames is an end at an ask
  pub ended_asked : (before after : ℕ) (why : JobFault) → EndAt p told (asks_of p.timeline) [] before after why → HasAsked p told before after why
  ended_asked before after fault.SourceFault e = e
  ended_asked before after fault.NoMemory e = tt
  ended_asked before after (fault.BadCut cut) e = absurd e.named
  ended_asked before after (fault.UnknownReel line) e = absurd e.named
  ended_asked before after (fault.MissingFrame line reel source) e = e
  ended_asked before after (fault.BadFrame line reel source bad) e = e
  ended_asked before after (fault.Geometry line reel source) e = e

  pub cut_asked : (before : ℕ) (why : JobFault) → IsCutUnless (bad_cut p) why → HasAsked p told before before why
  cut_asked before fault.SourceFault is = absurd is
  cut_asked before fault.NoMemory is = tt
  cut_asked before (fault.BadCut cut) is = refl
  cut_asked before (fault.UnknownReel line) is = absurd is
  cut_asked before (fault.MissingFrame line reel source) is = absurd is
  cut_asked before (fault.BadFrame line reel source bad) is = absurd is
  cut_asked before (fault.Geometry line reel source) is = absurd is

  pub placed_asked : (before : ℕ) (why : JobFault) → IsPlacedUnless p.reels p.timeline.events why → HasAsked p told before before why
  placed_asked before fault.SourceFault is = absurd is
  placed_asked before fault.NoMemory is = tt
  placed_asked before (fault.BadCut cut) is = absurd is
  placed_asked before (fault.UnknownReel line) is = refl
  placed_asked before (fault.MissingFrame line reel source) is = absurd is
  placed_asked before (fault.BadFrame line reel source bad) is = absurd is
  placed_asked before (fault.Geometry line reel source) is = absurd is

-- all asks are those of the first frames, of the next, and of the rest
module _ (t : RecordReel) where
  parts : (a i k : ℕ) → asks_from t a (i + k) ≡ asks_from t a i ++ asks_from t (a + i) k
  parts a zero k = let none : zero + k ≡ k = omega arith in let same : a + zero ≡ a = omega arith in rw (none, same) refl
  parts a (suc i) k =
      let more : suc i + k ≡ suc (i + k) = omega arith in
      let same : a + 1 + i ≡ a + suc i = omega arith in
      ap (asks_from t a) more ∙ ap (λ ys. asks_at t a ++ ys) (parts (a + 1) i k ∙ ap (λ n. asks_from t (a + 1) i ++ asks_from t n k) same)
      ∙ sym (append_assoc (asks_at t a) (asks_from t (a + 1) i) (asks_from t (a + suc i) k))

  pub all_asks : (i : ℕ) → i < frame_count t.events
      → asks_of t ≡ asks_from t 0 i ++ (asks_at t i ++ asks_from t (i + 1) (frame_count t.events - (i + 1)))
  unfolding asks_of
  all_asks i lt =
      let whole : frame_count t.events ≡ i + suc (frame_count t.events - (i + 1)) = omega (arith, lt) in
      let start : 0 + i ≡ i = omega arith in
      ap (asks_from t 0) whole ∙ parts 0 i (suc (frame_count t.events - (i + 1)))
      ∙ ap (λ k. asks_from t 0 i ++ asks_from t k (suc (frame_count t.events - (i + 1)))) start

-- a frame's end is the plan's
pub ended_whole : (p : JobParts) (told other : Option World) → other ≡ told → (i : ℕ) (shot : Shot) → i < frame_count p.timeline.events → shot ≡ shot_of_frame p.timeline i
    → (infos : List (Key × FrameInfo)) (before between after : ℕ) (why : JobFault) → Grows p told (asks_from p.timeline 0 i) [] infos → HeadsGrow before between 0 (length infos)
    → EndAt p other (asks_of_shot shot) infos between after why → EndAt p told (asks_of p.timeline) [] before after why
ended_whole p told other same i shot lt shot_is infos before between after why grows heads e =
    let here : EndAt p told (asks_at p.timeline i) infos between after why
    = subst (λ s. EndAt p told (asks_of_shot s) infos between after why) shot_is (subst (λ t. EndAt p t (asks_of_shot shot) infos between after why) same e) in
    let rest = asks_from p.timeline (i + 1) (frame_count p.timeline.events - (i + 1)) in
    subst (λ asks. EndAt p told asks [] before after why) (sym (all_asks p.timeline i lt))
    (ended_then p told (asks_from p.timeline 0 i) (asks_at p.timeline i ++ rest) [] infos before between after why grows heads
    (ended_first p told (asks_at p.timeline i) rest infos between after why here))

-- an error of the second of two steps
pub second_ended : {A : Type 0} (r : Result A JobFault) (P Q : JobFault → Type 0) → ((why : JobFault) → P why → Q why) → IfErr r P → IfErr r Q
second_ended (Ok a) P Q f h = h
second_ended (Err why) P Q f h = f why h
