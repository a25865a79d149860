-- A source frame's path is that of its key.
use Rattle.std.proofs.Common.{◌≡◌, ℕ, ℤ, pos, negsuc, ◌<◌, Bool, true, false, cond, List, length, slice_get, refl, sym, ap, subst, ◌∙◌, Option}
use Rattle.std.specs.Prelude.{Some, None, IsSome}
use Rattle.std.specs.Option.{option_and_then}
use Rattle.std.proofs.lemmas.Bool.{false≢true}
use Rattle.std.proofs.lemmas.Option.{none-some, same_Some, slice_get_within}
use Rattle.cf_base.specs.declared.key.Key.{Key}
use Rattle.cf_base.specs.declared.reel.ReelEntry.{ReelEntry}
use Rattle.source_reels.specs.Laws.{PathsAgree}
use Rattle.source_reels.specs.Reels.{has_frame, from_zero, path_of, key_of_frame, key_in, path_of_key}

-- a frame of the reel is not negative, so its number gives it back
back : (e : ReelEntry) (source : ℤ) → has_frame e source ≡ true → pos (from_zero source) ≡ source
back e (pos n) h = refl
back e (negsuc n) h = absurd (false≢true h)

agree_in : (entries : List ReelEntry) (reel : ℕ) (source : ℤ) (e : ReelEntry) (b : Bool) → slice_get entries reel ≡ Some e → has_frame e source ≡ b
    → path_of e source ≡ option_and_then (path_of_key entries) (cond b (Some (let k : Key = record { reel = reel; source = from_zero source } in k)) None)
agree_in entries reel source e false at has = rw has refl
agree_in entries reel source e true at has = rw at (ap (path_of e) (sym (back e source has)))

agree_by : (entries : List ReelEntry) (reel : ℕ) (source : ℤ) (e : Option ReelEntry) → slice_get entries reel ≡ e
    → option_and_then (λ (e : ReelEntry). path_of e source) e ≡ option_and_then (path_of_key entries) (option_and_then (key_of_frame reel source) e)
agree_by entries reel source None at = refl
agree_by entries reel source (Some e) at = agree_in entries reel source e (has_frame e source) at refl

pub paths_agree : PathsAgree
paths_agree entries reel source = agree_by entries reel source (slice_get entries reel) refl

some_path : (b : Bool) (text : List ℕ) → b ≡ true → IsSome (cond b (Some text) None)
some_path true text h = refl
some_path false text h = absurd (false≢true h)

framed : (b : Bool) (e : ReelEntry) (reel : ℕ) (source : ℤ) (key : Key) → has_frame e source ≡ b → cond b (Some (let k : Key = record { reel = reel; source = from_zero source } in k)) None ≡ Some key
    → (key.reel ≡ reel) × IsSome (path_of e (pos key.source))
framed false e reel source key has h = absurd (none-some key h)
framed true e reel source key has h =
    let k : Key = record { reel = reel; source = from_zero source } in
    let same : k ≡ key = same_Some k key h in
    let in_reel : has_frame e (pos (from_zero source)) ≡ true = subst (λ z. has_frame e z ≡ true) (sym (back e source has)) has in
    (ap (λ (k : Key). k.reel) (sym same), subst (λ (k : Key). IsSome (path_of e (pos k.source))) same (some_path (has_frame e (pos (from_zero source))) _ in_reel))

keyed_by : (entries : List ReelEntry) (e : Option ReelEntry) (reel : ℕ) (source : ℤ) (key : Key) → slice_get entries reel ≡ e → option_and_then (key_of_frame reel source) e ≡ Some key
    → (key.reel < length entries) × IsSome (path_of_key entries key)
keyed_by entries None reel source key at h = absurd (none-some key h)
keyed_by entries (Some e) reel source key at h =
    let f = framed (has_frame e source) e reel source key refl h in
    let here : slice_get entries key.reel ≡ Some e = ap (slice_get entries) f.0 ∙ at in
    (slice_get_within entries key.reel e here, rw here f.1)

-- the key of a source frame is of a reel in the table, and has a path
pub keyed : (entries : List ReelEntry) (reel : ℕ) (source : ℤ) (key : Key) → key_in entries source reel ≡ Some key → (key.reel < length entries) × IsSome (path_of_key entries key)
keyed entries reel source key h = keyed_by entries (slice_get entries reel) reel source key refl h
