-- What the steps of reading a line come to.
use Rattle.std.proofs.Common.{◌≡◌, ◌⊎◌, ◌∙◌, ◌<◌, ◌≤◌, ◌^◌, ap, refl, sym, subst, inl, inr, arith, ℕ, List, [], true, Option, Some, None, Result, Ok, Err, option_map, MatchOption, IsSomeAnd, codes}
use Rattle.std.specs.Prelude.{find, option_and_then, unwrap_or}
use Rattle.std.specs.Str.{bytes_eq}
use Rattle.std.specs.Str.Parse.{ParsesUnsigned}
use Rattle.clap.specs.Faults.{fault_of, is_simple_and_free}
use Rattle.clap.specs.Kinds.{IsAmong, Kinds}
use Rattle.clap.specs.Matches.{ReadsOne, matched_of}
use Rattle.clap.specs.Simple.{app_of, app_of_fields, is_simple, matches_of, on_top}
use Rattle.clap.specs.Walk.{Row, Text, one_of, row_of, rows_of}
use Rattle.clap.specs.Facts.{Entry}
use Rattle.clap.specs.declared.builder.command.Command.{Command}
use Rattle.clap.specs.declared.builder.command.Command.TheViews.{out-Command}
use Rattle.clap.specs.declared.error.kind.ErrorKind.{ErrorKind}
use Rattle.clap.specs.declared.error.kind.ErrorKind.TheVariants.{OutOfMemory}
use Rattle.clap.specs.declared.parser.matches.Found.{Found}
use Rattle.clap.specs.declared.parser.matches.MatchedArg.{MatchedArg}
use Rattle.clap.proofs.WalkLemmas.{find_row}
use Rattle.command_words.specs.Lines.{HasCount, IsLine, IsNumber, LineText, MakesLine, Writes, simple_command, source_of}
use Rattle.command_words.specs.inside.Lines.{HasNoLine, ReadsNumeral, text_of_line}
use Rattle.command_words.specs.declared.line.Line.{Line}

pub simple : is_simple simple_command ≡ true
unfolding simple_command
simple = refl

pub simple_and_free : is_simple_and_free simple_command ≡ true
unfolding simple_command
simple_and_free = refl

-- each setting that is made, as the definition sees it
pub set_name : (old new : Command) → out-Command new ≡ record (out-Command old) { no_binary_name = true } → app_of new ≡ on_top (λ s. record s { no_binary_name = true }) (app_of old)
set_name old new e = ap app_of_fields e

pub set_help : (old new : Command) → out-Command new ≡ record (out-Command old) { disable_help_flag = true } → app_of new ≡ on_top (λ s. record s { disable_help_flag = true }) (app_of old)
set_help old new e = ap app_of_fields e

pub set_version : (old new : Command) → out-Command new ≡ record (out-Command old) { disable_version_flag = true } → app_of new ≡ on_top (λ s. record s { disable_version_flag = true }) (app_of old)
set_version old new e = ap app_of_fields e

-- where a value comes from, by the rows
pub source-rows : (f : Found) (id : Text) → option_and_then (λ a. a.source) (matched_of f id) ≡ source_of id (rows_of f)
source-rows f id = go (find (λ e. bytes_eq e.0.now id) f.entries.items) ∙ ap (option_and_then (λ (r : Row). r.source)) (sym (find_row f.entries.items id))
  where
    go : (o : Option Entry) → option_and_then (λ (a : MatchedArg). a.source) (option_map (λ e. e.1) o) ≡ option_and_then (λ (r : Row). r.source) (option_map row_of o)
    go None = refl
    go (Some e) = refl

-- what `get_one` reads
pub numeral_read : {E : Type 0} (G : List ℕ → Result ℕ E → Type 0) → ((u : List ℕ) (x : Result ℕ E) → G u x → ParsesUnsigned 16 10 u x)
    → (text : Option Text) (r : Option ℕ) → (text ≡ None → r ≡ None) → ((t : List ℕ) → text ≡ Some t → ReadsOne G t r) → ReadsNumeral text r
numeral_read G parses None r none some = rw (none refl) (λ n small h. h)
numeral_read G parses (Some t) (Some n) none some =
    let p = parses t (Ok n) (some t refl) in (p.0.0, p.1)
numeral_read G parses (Some t) None none some =
    let e = some t refl in
    λ n small h. parses t (Err e.0) e.1 (h.0, rw (← h.1) small)

pub in_range : (text : Option Text) (n : ℕ) → 1 ≤ n → n ≤ 16 → IsSomeAnd text (Writes n) → IsSomeAnd text (IsNumber n)
in_range None n low high h = h
in_range (Some t) n low high h = (h, (low, high))

pub out_of_range : (text : Option Text) (n : ℕ) → IsSomeAnd text (Writes n) → (HasCount n → ⊥) → (m : ℕ) → IsSomeAnd text (IsNumber m) → ⊥
out_of_range None n h out m is = h
out_of_range (Some t) n h out m is =
    let same : m ≡ n = is.0.1 ∙ sym h.1 in
    out (rw (← same) is.1)

pub no_numeral : (text : Option Text) → ((n : ℕ) → n < 2 ^ 16 → IsSomeAnd text (Writes n) → ⊥) → (m : ℕ) → IsSomeAnd text (IsNumber m) → ⊥
no_numeral None h m is = is
no_numeral (Some t) h m is = h m (omega (arith, is.1.1)) is.0

-- the line of what was found is that of the words
pub line_read : (words : List Text) (rows : List Row) (r : Option Line) → rows ≡ matches_of simple_command words → fault_of simple_command words ≡ []
    → MatchOption r ((line : LineText) → IsLine rows line → ⊥) (λ line. IsLine rows (text_of_line line))
    → MatchOption r (HasNoLine words) (λ line. MakesLine words (text_of_line line))
line_read words rows (Some line) same taken h = (taken, subst (λ rs. IsLine rs (text_of_line line)) same h)
line_read words rows None same taken h = λ line reads. h line (subst (λ rs. IsLine rs line) (sym same) reads.1)

pub refused : (words : List Text) (kinds : Kinds) (k : ErrorKind) → kinds ≡ fault_of simple_command words → (k ≡ OutOfMemory → ⊥) → (k ≡ OutOfMemory) ⊎ IsAmong k kinds → HasNoLine words
refused words kinds k same other (inl memory) = absurd (other memory)
refused words kinds k same other (inr among) = λ line reads. subst (IsAmong k) (same ∙ reads.0) among

pub number_counts : (text : Option Text) (n : ℕ) → IsSomeAnd text (IsNumber n) → HasCount n
number_counts None n h = absurd h
number_counts (Some t) n h = h.1

-- words make one line
pub some_is : {X : Type 0} (x y : X) → Some x ≡ Some y → x ≡ y
some_is x y e = ap (λ o. unwrap_or o x) e

one_number : (text : Option Text) (m n : ℕ) → IsSomeAnd text (IsNumber m) → IsSomeAnd text (IsNumber n) → m ≡ n
one_number None m n a b = absurd a
one_number (Some t) m n a b = a.0.1 ∙ sym b.0.1

pub one_line : (rows : List Row) (a b : LineText) → IsLine rows a → IsLine rows b → a ≡ b
one_line rows a b x y =
    let command : a.command ≡ b.command = some_is _ _ (sym x.command ∙ y.command) in
    let subject : a.subject ≡ b.subject = some_is _ _ (sym x.subject ∙ y.subject) in
    let extra : a.extra ≡ b.extra = sym x.extra ∙ y.extra in
    let workers : a.workers ≡ b.workers = one_number (one_of (codes "workers") rows) a.workers b.workers x.workers y.workers in
    let share : a.share ≡ b.share = one_number (one_of (codes "share") rows) a.share b.share x.share y.share in
    let options : a.has_options ≡ b.has_options = x.options ∙ sym y.options in
    λ i. record { command = command i; subject = subject i; extra = extra i; workers = workers i; share = share i; has_options = options i }
