-- Reads of a file one after another, and the words that they gave.
use Rattle.std.proofs.Common.{◌≡◌, ℕ, ◌+◌, ◌*◌, ◌/◌, ◌<◌, List, [], ◌∷◌, ◌++◌, length, take, refl, sym, ap, subst, ◌∙◌, arith, append-nil, append_assoc}
use Rattle.cf_base.specs.declared.file.FileId.{FileId}
use Rattle.reel_disk.specs.declared.disk.Got.{Got}
use Rattle.reel_disk.specs.Call.{Call, Measured, Read, Wrote, Patched, Synced}
use Rattle.conform_job.specs.Job.{JobData, file_of}
use Rattle.frame_render.specs.Frame.{pixel_count}
use Rattle.reel_qc.specs.Reads.{AsksInTurn, ReadsFrame, ReadsWords, words_given, words_got}
use Rattle.reel_qc.specs.Table.{ReadsRows, Row}
use Rattle.reel_qc.specs.Words.{words_from}

given_along : (newer older : List Call) → words_given (newer ++ older) ≡ words_given older ++ words_given newer
given_along [] older = sym (append-nil (words_given older))
given_along (Read id start into got ∷ newer) older =
    ap (λ l. l ++ words_got got into) (given_along newer older) ∙ append_assoc (words_given older) (words_given newer) (words_got got into)
given_along (Measured id len ∷ newer) older = given_along newer older
given_along (Wrote id bytes did ∷ newer) older = given_along newer older
given_along (Patched id start bytes did ∷ newer) older = given_along newer older
given_along (Synced id did ∷ newer) older = given_along newer older

asks_along : (id : FileId) (first a b : ℕ) (newer older : List Call) → AsksInTurn id first a older → AsksInTurn id (first + a) b newer → AsksInTurn id first (a + b) (newer ++ older)
asks_along id first a b [] older one two = let same : a ≡ a + b = omega (arith, two) in subst (λ n. AsksInTurn id first n older) same one
asks_along id first a b (Read of start into got ∷ newer) older one two =
    (a + two.0, two.1, two.2, omega (arith, two.3), two.4, two.5 ∙ further, two.6, asks_along id first a two.0 newer older one two.7)
  where
    further : 2048 + 4 * (first + a + two.0) ≡ 2048 + 4 * (first + (a + two.0))
    further = omega arith
asks_along id first a b (Measured of len ∷ newer) older one two = absurd two
asks_along id first a b (Wrote of bytes did ∷ newer) older one two = absurd two
asks_along id first a b (Patched of start bytes did ∷ newer) older one two = absurd two
asks_along id first a b (Synced of did ∷ newer) older one two = absurd two

-- nothing was asked for
pub asks_none : (id : FileId) (first : ℕ) (calls : List Call) → ReadsWords id first 0 [] calls calls
asks_none id first calls = record { since = []; made = refl; asks = refl; words_are = refl }

-- one read, which gave these words
pub asks_once : (id : FileId) (first count : ℕ) (into words : List ℕ) (got : Got) (before after : List Call) → 0 < count → length into ≡ 4 * count
    → after ≡ Read id (2048 + 4 * first) into got ∷ before → words ≡ words_got got into → ReadsWords id first count words before after
asks_once id first count into words got before after some size call are = record {
  since = Read id (2048 + 4 * first) into got ∷ [];
  made = call;
  asks = (0, count, some, omega arith, refl, omega arith, size, refl);
  words_are = are;
}

-- more words, behind those
pub asks_more : (id : FileId) (first a b : ℕ) (words more whole : List ℕ) (before mid after : List Call) → whole ≡ words ++ more
    → ReadsWords id first a words before mid → ReadsWords id (first + a) b more mid after → ReadsWords id first (a + b) whole before after
asks_more id first a b words more whole before mid after is one two = record {
  since = two.since ++ one.since;
  made = two.made ∙ ap (λ l. two.since ++ l) one.made ∙ sym (append_assoc two.since one.since before);
  asks = asks_along id first a b two.since one.since one.asks two.asks;
  words_are = is ∙ (λ i. one.words_are i ++ two.words_are i) ∙ sym (given_along two.since one.since);
}

-- a read that gave bytes
pub bytes_given : (count n : ℕ) (into words : List ℕ) → length into ≡ 4 * count → words ≡ words_from 0 count (take n into) → words ≡ words_from 0 (length into / 4) (take n into)
bytes_given count n into words size is = let same : count ≡ length into / 4 = omega (arith, size) in is ∙ ap (λ m. words_from 0 m (take n into)) same

-- a frame's file, by what it was called
pub frame_asked : (job : JobData) (i : ℕ) (id : FileId) (most : ℕ) (words same : List ℕ) (before after : List Call) → id ≡ file_of job i → most ≡ pixel_count job → same ≡ words
    → ReadsWords id 0 most words before after → ReadsFrame job i same before after
frame_asked job i id most words same before after own all is asked =
    subst (λ n. ReadsWords (file_of job i) 0 n same before after) all
    (subst (λ (q : FileId). ReadsWords q 0 most same before after) own
    (subst (λ l. ReadsWords id 0 most l before after) (sym is) asked))

-- more rows, behind those
pub asks_rows : (job : JobData) (rows more : List Row) (before mid after : List Call) → ReadsRows job rows before mid → ReadsRows job more mid after → ReadsRows job (rows ++ more) before after
asks_rows job [] more before mid after one two = subst (λ (calls : List Call). ReadsRows job more calls after) one two
asks_rows job (row ∷ rows) more before mid after one two = (one.0, one.1, asks_rows job rows more one.0 mid after one.2 two)

-- the same from the first word on
pub asks_on : (id : FileId) (a b : ℕ) (words more : List ℕ) (before mid after : List Call) → ReadsWords id 0 a words before mid → ReadsWords id a b more mid after → ReadsWords id 0 (a + b) (words ++ more) before after
asks_on id a b words more before mid after one two =
    let same : a ≡ 0 + a = omega arith in
    asks_more id 0 a b words more (words ++ more) before mid after refl one (subst (λ n. ReadsWords id n b more mid after) same two)
