-- Source frames by key.
--     is_key a b      whether two keys are one
--     key_of_ask entries events ask      the key of an ask, where its reel is in the table and has the frame
--     info_at infos key      what a list of entries by key has for it
use Rattle.std.specs.Prelude.{ℕ, ℤ, Bool, ◌&&◌, ◌==◌, List, slice_get, Option, option_and_then, filter_map}
use Rattle.std.specs.Map.{lookup}
use Rattle.cf_base.specs.declared.event.EventRec.{EventRec}
use Rattle.cf_base.specs.declared.key.Key.{Key}
use Rattle.cf_base.specs.declared.reel.ReelEntry.{ReelEntry}
use Rattle.dpx_header.specs.declared.info.FrameInfo.{FrameInfo}
use Rattle.source_reels.specs.Reels.{reel_place, key_in}
use Rattle.conform_job.specs.declared.frames.Ask.{Ask}

abbrev pub is_key : Key → Key → Bool
is_key a b = a.reel == b.reel && a.source == b.source

abbrev pub key_at : List ReelEntry → ℤ → Option ℕ → Option Key
key_at entries source place = option_and_then (key_in entries source) place

-- the place of an event's reel
abbrev pub place_at : List ReelEntry → List EventRec → ℕ → Option ℕ
place_at entries events i = option_and_then (λ (e : EventRec). reel_place entries e.reel) (slice_get events i)

abbrev pub key_of_ask : List ReelEntry → List EventRec → Ask → Option Key
key_of_ask entries events ask = key_at entries ask.source (place_at entries events ask.event)

abbrev pub keys_of_asks : List ReelEntry → List EventRec → List Ask → List Key
keys_of_asks entries events asks = filter_map (key_of_ask entries events) asks

abbrev pub info_at : List (Key × FrameInfo) → Key → Option FrameInfo
info_at infos key = lookup (is_key key) infos
