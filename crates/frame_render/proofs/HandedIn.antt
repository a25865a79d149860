-- The words that were handed in are those of the shot's sides.
use Rattle.std.proofs.Common.{◌≡◌, ℕ, List, refl, sym, ap, ◌∙◌, Option}
use Rattle.std.specs.Prelude.{Some, None, IfSome, IsSome}
use Rattle.std.specs.Option.{option_map, option_and_then}
use Rattle.std.proofs.lemmas.Bool.{false≢true}
use Rattle.cf_base.specs.declared.key.Key.{Key}
use Rattle.dpx_header.specs.declared.info.FrameInfo.{FrameInfo}
use Rattle.record_timeline.specs.declared.Side.{Side}
use Rattle.record_timeline.specs.declared.Side.TheVariants.{Black, Frame}
use Rattle.record_timeline.specs.declared.Shot.{Shot}
use Rattle.record_timeline.specs.declared.Shot.TheVariants.{Gap, One, Two}
use Rattle.scan_source.specs.World.{World, file_at}
use Rattle.conform_job.specs.Asks.{shot_of_frame}
use Rattle.conform_job.specs.Job.{JobData, need_of_side, need_of_shot, need_at, info_of_key, IsMet, AreMet}
use Rattle.conform_job.specs.Keys.{info_at, key_of_ask}
use Rattle.conform_job.specs.Refusals.{Files}
use Rattle.frame_render.specs.Frame.{AreSidesOf, KeyWords, words_of_key, side_words, old_words, new_words, words_kept, HasKeyOf, IsFileOf, file_by, frame_file}
use Rattle.frame_render.specs.inside.Frame.{IsDecoded}

none_some : {A : Type 0} (x : A) → ◌≡◌ {A = Option A} None (Some x) → ⊥
none_some x h = cc

some_is : {A : Type 0} (a b : A) → ◌≡◌ {A = Option A} (Some a) (Some b) → a ≡ b
some_is a b h = cc

no_words : (decoded : Option KeyWords) → ◌≡◌ {A = Option Key} None (option_map (λ (d : KeyWords). d.key) decoded) → words_kept decoded ≡ None
no_words None h = refl
no_words (Some d) h = absurd (none_some d.key h)

module _ (job : JobData) (files : Files) where
  some_words : (key : Key) (decoded : Option KeyWords)
      → ◌≡◌ {A = Option Key} (Some key) (option_map (λ (d : KeyWords). d.key) decoded) → IsDecoded job files decoded
      → words_kept decoded ≡ Some (words_of_key job files key)
  some_words key None h is = absurd (none_some key (sym h))
  some_words key (Some d) h is = ap Some (is ∙ ap (words_of_key job files) (sym (some_is key d.key h)))

  by_info : (key : Key) (info : Option FrameInfo) (decoded : Option KeyWords)
      → IsSome (option_map (λ (info : FrameInfo). let n : Key × FrameInfo = (key, info) in n) info)
      → HasKeyOf (option_map (λ (info : FrameInfo). let n : Key × FrameInfo = (key, info) in n) info) decoded → IsDecoded job files decoded
      → words_kept decoded ≡ Some (words_of_key job files key)
  by_info key None decoded met has is = absurd (false≢true met)
  by_info key (Some info) decoded met has is = some_words key decoded has is

  by_key : (key : Option Key) (decoded : Option KeyWords) → IsSome (option_and_then (info_of_key job.infos) key)
      → HasKeyOf (option_and_then (info_of_key job.infos) key) decoded → IsDecoded job files decoded
      → words_kept decoded ≡ option_map (words_of_key job files) key
  by_key None decoded met has is = absurd (false≢true met)
  by_key (Some key) decoded met has is = by_info key (info_at job.infos key) decoded met has is

  side_met : (side : Side) (decoded : Option KeyWords) → IsMet side (need_of_side job.parts job.infos side)
      → HasKeyOf (need_of_side job.parts job.infos side) decoded → IsDecoded job files decoded
      → words_kept decoded ≡ side_words job files side
  side_met Black decoded met has is = no_words decoded has
  side_met (Frame event source) decoded met has is =
      by_key (key_of_ask job.parts.reels job.parts.timeline.events (record { event = event; source = source })) decoded met has is

  pub old_met : (shot : Shot) (decoded : Option KeyWords) → AreMet shot (need_of_shot job.parts job.infos shot)
      → HasKeyOf (need_of_shot job.parts job.infos shot).old decoded → IsDecoded job files decoded
      → words_kept decoded ≡ old_words job files shot
  old_met Gap decoded met has is = no_words decoded has
  old_met (One side) decoded met has is = no_words decoded has
  old_met (Two old new transition k d) decoded met has is = side_met old decoded met.0 has is

  pub new_met : (shot : Shot) (decoded : Option KeyWords) → AreMet shot (need_of_shot job.parts job.infos shot)
      → HasKeyOf (need_of_shot job.parts job.infos shot).new decoded → IsDecoded job files decoded
      → words_kept decoded ≡ new_words job files shot
  new_met Gap decoded met has is = no_words decoded has
  new_met (One side) decoded met has is = side_met side decoded met has is
  new_met (Two old new transition k d) decoded met has is = side_met new decoded met.1 has is

told_both : {A : Type 0} (told : Option A) (P Q R : A → Type 0) → ((a : A) → P a → Q a → R a) → IfSome told P → IfSome told Q → IfSome told R
told_both None P Q R f h k = tt
told_both (Some a) P Q R f h k = f a h k

-- the bytes that were made of the handed-in words are those of the frame's file
pub rendered : (job : JobData) (told : Option World) (i : ℕ) (old new : Option KeyWords) (bytes : List ℕ)
    → AreMet (shot_of_frame job.parts.timeline i) (need_at job i) → AreSidesOf job i old new
    → IfSome told (λ world. IsDecoded job (file_at world) old) → IfSome told (λ world. IsDecoded job (file_at world) new)
    → bytes ≡ file_by job i (words_kept old) (words_kept new) → IsFileOf job told i bytes
unfolding frame_file
rendered job told i old new bytes met sides is_old is_new bytes_are =
    let shot : Shot = shot_of_frame job.parts.timeline i in
    told_both told _ _ _ (λ world is_o is_n.
    bytes_are
    ∙ ap (λ o. file_by job i o (words_kept new)) (old_met job (file_at world) shot old met sides.old_key is_o)
    ∙ ap (λ n. file_by job i (old_words job (file_at world) shot) n) (new_met job (file_at world) shot new met sides.new_key is_n))
    is_old is_new
