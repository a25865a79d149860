-- How the infos come to have the keys of the asks.
use Rattle.std.proofs.Common.{◌≡◌, ℕ, Bool, true, false, cond, ◌||◌, ◌==◌, List, [], ◌∷◌, ◌++◌, slice_get, All, refl, sym, ap, ◌∙◌, arith, Option, is_some}
use Rattle.std.specs.Prelude.{Some, None, IfSome, IsSome, IsSomeAnd, Ok}
use Rattle.std.specs.List.{list_any, cons_option}
use Rattle.std.proofs.lemmas.Bool.{and_parts}
use Rattle.std.proofs.lemmas.Bool.Decides.{nat_tests}
use Rattle.std.proofs.lemmas.List.Elements.{All-append, All-cons, All-nil, filter_map-append}
use Rattle.std.proofs.lemmas.List.Folds.{list_any-append}
use Rattle.cf_base.specs.declared.key.Key.{Key}
use Rattle.dpx_header.specs.declared.info.FrameInfo.{FrameInfo}
use Rattle.scan_source.specs.World.{World, file_at}
use Rattle.source_reels.specs.Seen.{info_of_file}
use Rattle.source_reels.proofs.Heads.{told_more}
use Rattle.conform_job.specs.declared.frames.Named.{Named}
use Rattle.conform_job.specs.declared.parts.JobParts.{JobParts}
use Rattle.conform_job.specs.declared.parts.JobFault.{JobFault}
use Rattle.conform_job.specs.declared.frames.Ask.{Ask}
use Rattle.conform_job.specs.Keys.{is_key, info_at, key_of_ask, keys_of_asks}
use Rattle.conform_job.specs.Infos.{HasEachOnce}
use Rattle.conform_job.specs.inside.Infos.{IsSetTo}
use Rattle.conform_job.specs.Refusals.{Files, file_of_key, file_refusal, key_refusal, ask_refusal, asks_refusal, name_of_ask}
use Rattle.conform_job.specs.Answers.{IsInfoOf, AreInfosOf, Grows}

eq_by_test : (a b : ℕ) → (a == b) ≡ true → a ≡ b
eq_by_test a b h = grind (arith, nat_tests)

pub same_by_test : (a : ℕ) → (a == a) ≡ true
same_by_test a = grind (arith, nat_tests)

test_turned : (a b : ℕ) → (a == b) ≡ (b == a)
test_turned a b = grind (arith, nat_tests)

pub same_key : (a b : Key) → is_key a b ≡ true → a ≡ b
same_key a b h =
    let parts = and_parts _ _ h in
    let reel = eq_by_test a.reel b.reel parts.0 in
    let source = eq_by_test a.source b.source parts.1 in
    λ i. record { reel = reel i; source = source i }

pub turned : (a b : Key) → is_key a b ≡ is_key b a
turned a b = rw (test_turned a.reel b.reel, test_turned a.source b.source) refl

module _ (p : JobParts) (told : Option World) where
  -- the refusal of one ask, by its key
  first_one : (r : Option JobFault) → slice_get (cons_option r []) 0 ≡ r
  first_one None = refl
  first_one (Some why) = refl

  pub one_refusal : (world : Files) (ask : Ask) (n : Named) (key : Option Key) → name_of_ask p.timeline.events ask ≡ Some n → key ≡ key_of_ask p.reels p.timeline.events ask
      → asks_refusal p world (ask ∷ []) ≡ key_refusal p world n key
  one_refusal world ask n key named is = first_one (ask_refusal p world ask) ∙ rw (named, ← is) refl

  -- an info that was kept refuses nothing
  passes : (n : Named) (w h : ℕ) (info : FrameInfo) (file : Option (List ℕ)) → info.width ≡ w → info.height ≡ h → IsSomeAnd file (λ bytes. info_of_file bytes ≡ Ok info) → file_refusal n w h file ≡ None
  passes n w h info None ww hh is = absurd is
  passes n w h info (Some bytes) ww hh is = rw (is, ww, hh, same_by_test w, same_by_test h) refl

  pub kept_passes : (n : Named) (key : Key) (info : FrameInfo) → IsInfoOf p told key info → IfSome told (λ world. key_refusal p (file_at world) n (Some key) ≡ None)
  kept_passes n key info is = told_more told _ _ (λ world h. passes n p.project.width p.project.height info (file_of_key p.reels (file_at world) key) is.width is.height h) is.file

  one_key : (ask : Ask) (key : Key) (q : Key) → key_of_ask p.reels p.timeline.events ask ≡ Some key → list_any (is_key q) (keys_of_asks p.reels p.timeline.events (ask ∷ [])) ≡ is_key q key
  one_key ask key q is = rw is (or_false (is_key q key))
    where
      or_false : (b : Bool) → (b || false) ≡ b
      or_false true = refl
      or_false false = refl

  one_found : (ask : Ask) (key : Key) → key_of_ask p.reels p.timeline.events ask ≡ Some key → All (λ (ask : Ask). IsSome (key_of_ask p.reels p.timeline.events ask)) (ask ∷ [])
  one_found ask key is = let has : IsSome (key_of_ask p.reels p.timeline.events ask) = rw is refl in All-cons (λ (ask : Ask). IsSome (key_of_ask p.reels p.timeline.events ask)) ask [] has (All-nil (λ (ask : Ask). IsSome (key_of_ask p.reels p.timeline.events ask)))

  absorbs : (b : Bool) (q key : Key) (infos : List (Key × FrameInfo)) (info : FrameInfo) → is_key q key ≡ b → info_at infos key ≡ Some info → is_some (info_at infos q) ≡ (is_some (info_at infos q) || b)
  absorbs true q key infos info same is = rw (same_key q key same, is) refl
  absorbs false q key infos info same is = or_false (is_some (info_at infos q))
    where
      or_false : (b : Bool) → b ≡ (b || false)
      or_false true = refl
      or_false false = refl

  -- a key that was seen before
  pub grown_seen : (ask : Ask) (key : Key) (infos : List (Key × FrameInfo)) (info : FrameInfo) → key_of_ask p.reels p.timeline.events ask ≡ Some key → info_at infos key ≡ Some info → AreInfosOf p told infos
      → Grows p told (ask ∷ []) infos infos
  grown_seen ask key infos info is at each = record {
    keys = λ q. absorbs (is_key q key) q key infos info refl at ∙ ap (λ b. is_some (info_at infos q) || b) (sym (one_key ask key q is));
    each = each;
    once = λ h. h;
    found = one_found ask key is;
  }

  set_some : (b : Bool) (info : FrameInfo) (r : Option FrameInfo) → is_some (cond b (Some info) r) ≡ (is_some r || b)
  set_some true info None = refl
  set_some true info (Some x) = refl
  set_some false info None = refl
  set_some false info (Some x) = refl

  set_each : (b : Bool) (q key : Key) (before : List (Key × FrameInfo)) (info found : FrameInfo) → is_key key q ≡ b → IsInfoOf p told key info → ((f : FrameInfo) → info_at before q ≡ Some f → IsInfoOf p told q f)
      → cond b (Some info) (info_at before q) ≡ Some found → IsInfoOf p told q found
  set_each true q key before info found same is others e = rw (← same_key key q same, ← some_is info found e) is
    where
      some_is : (a b : FrameInfo) → ◌≡◌ {A = Option FrameInfo} (Some a) (Some b) → a ≡ b
      some_is a b h = cc
  set_each false q key before info found same is others e = others found e

  -- a key that is new
  pub grown_set : (ask : Ask) (key : Key) (before after : List (Key × FrameInfo)) (info : FrameInfo) → key_of_ask p.reels p.timeline.events ask ≡ Some key → IsSetTo before key info after
      → IsInfoOf p told key info → AreInfosOf p told before → (HasEachOnce before → HasEachOnce after) → Grows p told (ask ∷ []) before after
  unfolding AreInfosOf
  grown_set ask key before after info is set new each once = record {
    keys = λ q. ap is_some (set q) ∙ set_some (is_key key q) info (info_at before q) ∙ ap (λ b. is_some (info_at before q) || b) (turned key q ∙ sym (one_key ask key q is));
    once = once;
    each = λ q found e. set_each (is_key key q) q key before info found refl new (each q) (sym (set q) ∙ e);
    found = one_found ask key is;
  }

  pub seen_is : (infos : List (Key × FrameInfo)) (key : Key) (info : FrameInfo) → AreInfosOf p told infos → info_at infos key ≡ Some info → IsInfoOf p told key info
  unfolding AreInfosOf
  seen_is infos key info each at = each key info at

  or_assoc : (a b c : Bool) → ((a || b) || c) ≡ (a || (b || c))
  or_assoc true b c = refl
  or_assoc false b c = refl

  -- nothing is asked
  pub grown_none : (infos : List (Key × FrameInfo)) → AreInfosOf p told infos → Grows p told [] infos infos
  grown_none infos each = record { keys = λ q. or_none (is_some (info_at infos q)); each = each; once = λ h. h; found = All-nil _ }
    where
      or_none : (b : Bool) → b ≡ (b || false)
      or_none true = refl
      or_none false = refl

  -- some asks, and then others
  pub grown_both : (xs ys : List Ask) (a b c : List (Key × FrameInfo)) → Grows p told xs a b → Grows p told ys b c → Grows p told (xs ++ ys) a c
  grown_both xs ys a b c first second = record {
    keys = λ q. second.keys q ∙ ap (λ s. s || list_any (is_key q) (keys_of_asks p.reels p.timeline.events ys)) (first.keys q) ∙ or_assoc (is_some (info_at a q)) (list_any (is_key q) (keys_of_asks p.reels p.timeline.events xs)) (list_any (is_key q) (keys_of_asks p.reels p.timeline.events ys))
        ∙ ap (λ s. is_some (info_at a q) || s) (sym (ap (list_any (is_key q)) (filter_map-append (key_of_ask p.reels p.timeline.events) xs ys) ∙ list_any-append (is_key q) (keys_of_asks p.reels p.timeline.events xs) (keys_of_asks p.reels p.timeline.events ys)));
    each = second.each;
    once = λ h. second.once (first.once h);
    found = All-append (λ ask. IsSome (key_of_ask p.reels p.timeline.events ask)) xs ys first.found second.found;
  }

-- what was told may be left out
pub grown_untold : (p : JobParts) (told : Option World) (asks : List Ask) (before after : List (Key × FrameInfo)) → Grows p told asks before after → Grows p None asks before after
unfolding AreInfosOf
grown_untold p told asks before after g = record {
  keys = g.keys;
  each = λ key info e. let h = g.each key info e in record { frame = h.frame; width = h.width; height = h.height; file = tt };
  once = g.once;
  found = g.found;
}
