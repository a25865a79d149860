-- Which frames are shared, by all steps so far: words of private clauses.
use Rattle.std.specs.Prelude.{◌≡◌, ℕ, List, map, Contains}
use Rattle.lru.specs.LruCache.{LruCache}
use Rattle.cf_base.specs.declared.key.Key.{Key}
use Rattle.frame_render.specs.Frame.{KeyWords}
use Rattle.frame_share.specs.declared.place.Place.{Place}
use Rattle.frame_share.specs.declared.step.ShareStep.{ShareStep}
use Rattle.frame_share.specs.Share.{IsShareLog, keys_of, misses_of}

abbrev pub key_at : Place → Key
key_at place = record { reel = place.reel; source = place.source }

module _ {F : Type 0} (value_of : F → KeyWords) where
  -- There is room for so many frames. Those that are there are those that the steps say, each under its own key, and each miss is
  -- counted.
  pub record IsShare (capacity : ℕ) (frames : LruCache Place F) (steps : List ShareStep) (total : ℕ) : Type 0 where
    pub room : frames.cap ≡ capacity
    pub log : IsShareLog (record { capacity = frames.cap; steps = steps })
    pub there : map (λ e. key_at e.0) frames.entries ≡ keys_of frames.cap steps
    pub own : (e : Place × F) → Contains frames.entries e → (value_of e.1).key ≡ key_at e.0
    pub counted : misses_of steps ≡ total
