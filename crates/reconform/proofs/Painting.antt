-- A frame's pixels follow from its plan.
use Rattle.std.proofs.Common.{◌≡◌, ℕ, ℤ, ◌+◌, ◌*◌, List, refl, sym, ◌∙◌, ap}
use Rattle.std.specs.Prelude.{Option, Some, None, IsSome, map, flat_map, slice_index, if◌then◌else◌}
use Rattle.std.specs.Option.{option_map, option_and_then}
use Rattle.std.specs.List.{range_with_len}
use Rattle.std.proofs.lemmas.Bool.{false≢true}
use Rattle.std.proofs.lemmas.List.{drop_at}
use Rattle.std.proofs.lemmas.Option.{none-some}
use Rattle.byteorder.specs.Endian.{big_bytes}
use Rattle.cf_base.specs.Rgb.{codes_of}
use Rattle.cf_base.specs.declared.event.Transition.{Transition}
use Rattle.cf_base.specs.declared.event.Transition.TheVariants as transition
use Rattle.cf_base.specs.declared.key.Key.{Key}
use Rattle.cf_base.specs.declared.reel.ReelEntry.{ReelEntry}
use Rattle.dpx_header.specs.Writing.{header_of}
use Rattle.dpx_pack.specs.Pixels.{colour_word, word_codes}
use Rattle.trans_mix.specs.Mix.{mixed_code}
use Rattle.trans_mix.specs.Wipe.{is_incoming}
use Rattle.tetra_look.specs.Look.{look_of, channels, Lattice}
use Rattle.record_timeline.specs.declared.Side.{Side}
use Rattle.record_timeline.specs.declared.Side.TheVariants as side
use Rattle.record_timeline.specs.declared.Shot.{Shot}
use Rattle.record_timeline.specs.declared.Shot.TheVariants as shot
use Rattle.source_reels.specs.Reels.{path_of_key}
use Rattle.source_reels.proofs.KeyLaws.{keyed}
use Rattle.conform_job.specs.Asks.{shot_of_frame}
use Rattle.conform_job.specs.Job.{JobData}
use Rattle.conform_job.specs.Keys.{key_at, key_of_ask, place_at}
use Rattle.conform_job.specs.Refusals.{Files}
use Rattle.frame_render.specs.Frame.{words_of_file, words_of_key, side_words, black_of, side_colour, transition_colour, two_colour, shot_colour, old_words, new_words, picture, some_lines, frame_file, out_head}
use Rattle.dpx_header.proofs.Header.{length-header}
use Rattle.reconform.specs.declared.plan.PlanSide.{PlanSide}
use Rattle.reconform.specs.declared.plan.PlanSide.TheVariants as plan_side
use Rattle.reconform.specs.declared.plan.FramePlan.{FramePlan}
use Rattle.reconform.specs.declared.plan.FramePlan.TheVariants.{Solid, One, Two}
use Rattle.reconform.specs.Laws.{HasTitle, pixels_of, EqualPlansLookAlike}
use Rattle.reconform.specs.Plan.{key_path, path_of_side, side_by, one_by, plan_of, plan_at}

-- a side's words, by its path
plan_words : Files → PlanSide → Option (List ℕ)
plan_words files plan_side.Black = None
plan_words files (plan_side.Frame path) = Some (words_of_file (files path))

has_path : (entries : List ReelEntry) (place : Option ℕ) (source : ℤ) (key : Key) → key_at entries source place ≡ Some key → IsSome (path_of_key entries key)
has_path entries None source key h = absurd (none-some key h)
has_path entries (Some reel) source key h = (keyed entries reel source key h).1

module _ (job : JobData) (files : Files) where
  words_by_path : (key : Key) (path : Option (List ℕ)) → path_of_key job.parts.reels key ≡ path → IsSome path → Some (words_of_key job files key) ≡ plan_words files (side_by path)
  unfolding words_of_key plan_words
  words_by_path key None at has = absurd (false≢true has)
  words_by_path key (Some path) at has = ap (λ (p : Option (List ℕ)). Some (words_of_file (option_and_then files p))) at

  words_by_key : (place : Option ℕ) (source : ℤ) (key : Option Key) → key_at job.parts.reels source place ≡ key → option_map (words_of_key job files) key ≡ plan_words files (side_by (key_path job key))
  unfolding plan_words
  words_by_key place source None at = refl
  words_by_key place source (Some key) at = words_by_path key (path_of_key job.parts.reels key) refl (has_path job.parts.reels place source key at)

  side_follows : (s : Side) → side_words job files s ≡ plan_words files (side_by (path_of_side job s))
  unfolding plan_words
  side_follows side.Black = refl
  side_follows (side.Frame event source) = words_by_key (place_at job.parts.reels job.parts.timeline.events event) source (key_of_ask job.parts.reels job.parts.timeline.events (record { event = event; source = source })) refl

-- a side's colour, by its words
colour_by : ℕ → List ℕ → Option (List ℕ) → (x y : ℕ) → List ℕ
colour_by w black None x y = black
colour_by w black (Some words) x y = word_codes (slice_index words (y * w + x))

transition_by : (w h : ℕ) → Option ℕ → (k d x y : ℕ) → (old new : List ℕ) → List ℕ
transition_by w h None k d x y old new = map (λ c. mixed_code (slice_index old c) (slice_index new c) k d) channels
transition_by w h (Some code) k d x y old new = if is_incoming code x y w h k d then new else old

-- what a plan shows at a pixel
plan_colour : (w h : ℕ) → List ℕ → Files → FramePlan → (x y : ℕ) → List ℕ
plan_colour w h black files Solid x y = black
plan_colour w h black files (One path) x y = colour_by w black (Some (words_of_file (files path))) x y
plan_colour w h black files (Two old new wipe k d) x y = transition_by w h wipe k d x y (colour_by w black (plan_words files old) x y) (colour_by w black (plan_words files new) x y)

-- the picture of a plan
painted : (w h : ℕ) → List ℕ → Option Lattice → Files → FramePlan → List ℕ
painted w h black look files plan =
    flat_map (λ y. flat_map (big_bytes 4) (map (λ x. colour_word (look_of look (plan_colour w h black files plan x y))) (range_with_len 0 w))) (range_with_len 0 h)

module _ (job : JobData) (files : Files) where
  side_is : (words : Option (List ℕ)) (x y : ℕ) → side_colour job words x y ≡ colour_by job.parts.project.width (black_of job) words x y
  unfolding colour_by
  side_is None x y = refl
  side_is (Some words) x y = refl

  one_is : (path : Option (List ℕ)) (x y : ℕ) → side_colour job (plan_words files (side_by path)) x y ≡ plan_colour job.parts.project.width job.parts.project.height (black_of job) files (one_by path) x y
  unfolding plan_words plan_colour colour_by
  one_is None x y = refl
  one_is (Some path) x y = refl

  -- what a transition shows of its sides' colours
  sides_are : (old new : Side) (t : Transition) (k d x y : ℕ)
      → two_colour job t k d (side_words job files old) (side_words job files new) x y
      ≡ transition_colour job.parts.project.width job.parts.project.height t k d x y
      (colour_by job.parts.project.width (black_of job) (plan_words files (side_by (path_of_side job old))) x y)
      (colour_by job.parts.project.width (black_of job) (plan_words files (side_by (path_of_side job new))) x y)
  sides_are old new t k d x y n =
      transition_colour job.parts.project.width job.parts.project.height t k d x y
      ((ap (λ (ws : Option (List ℕ)). side_colour job ws x y) (side_follows job files old) ∙ side_is (plan_words files (side_by (path_of_side job old))) x y) n)
      ((ap (λ (ws : Option (List ℕ)). side_colour job ws x y) (side_follows job files new) ∙ side_is (plan_words files (side_by (path_of_side job new))) x y) n)

  follows : (s : Shot) (x y : ℕ) → shot_colour job s (old_words job files s) (new_words job files s) x y ≡ plan_colour job.parts.project.width job.parts.project.height (black_of job) files (plan_of job s) x y
  unfolding plan_colour transition_by
  follows shot.Gap x y = refl
  follows (shot.One s) x y = ap (λ (ws : Option (List ℕ)). side_colour job ws x y) (side_follows job files s) ∙ one_is (path_of_side job s) x y
  follows (shot.Two old new transition.Cut k d) x y = ap (λ (ws : Option (List ℕ)). side_colour job ws x y) (side_follows job files new) ∙ one_is (path_of_side job new) x y
  follows (shot.Two old new (transition.Dissolve n) k d) x y = sides_are old new (transition.Dissolve n) k d x y
  follows (shot.Two old new (transition.Wipe code n) k d) x y = sides_are old new (transition.Wipe code n) k d x y

  pictured : (s : Shot) → picture job s (old_words job files s) (new_words job files s) ≡ painted job.parts.project.width job.parts.project.height (black_of job) job.parts.look files (plan_of job s)
  unfolding some_lines painted
  pictured s i = flat_map (λ y. flat_map (big_bytes 4) (map (λ x. colour_word (look_of job.parts.look (follows s x y i))) (range_with_len 0 job.parts.project.width))) (range_with_len 0 job.parts.project.height)

  pixels_are : (i : ℕ) → HasTitle job → pixels_of job files i ≡ painted job.parts.project.width job.parts.project.height (black_of job) job.parts.look files (plan_at job i)
  unfolding frame_file
  pixels_are i title =
      let s = shot_of_frame job.parts.timeline i in
      drop_at (header_of (out_head job i)) (picture job s (old_words job files s) (new_words job files s)) 2048 (length-header (out_head job i) title) ∙ pictured s

pub equal_plans : EqualPlansLookAlike
equal_plans a b files i j title_a title_b alike look plan =
    pixels_are a files i title_a
    ∙ (λ t. painted (alike.width t) (alike.height t) (codes_of (alike.black t)) (look t) files (plan t))
    ∙ sym (pixels_are b files j title_b)
