-- The project text of the demonstration means a project.
use Rattle.std.proofs.Common.{◌≡◌, ℕ, suc, ◌-◌, ◌<◌, ◌^◌, ◌==◌, true, false, List, [], ◌∷◌, ◌++◌, length, codes, Option, Some, None, option_and_then, refl, sym, ap, ◌∙◌, arith, append_assoc, pos}
use Rattle.std.specs.Prelude.{decimal, option_map}
use Rattle.std.specs.Fmt.{digits}
use Rattle.std.proofs.lemmas.Bool.Decides.{nat_tests}
use Rattle.toml_parser.specs.Lexical.{skip_blank}
use Rattle.toml_parser.proofs.LexicalLemmas.{skip_from-nil}
use Rattle.toml.proofs.OnLiterals.{toml_on_literals}
use Rattle.toml_writer.specs.Text.{string_text, key_text, encoding_of, escaped, needs_escape, quotes_after}
use Rattle.toml.specs.Data.{Data, string, integer, array, item, no_items, table, Members, member, no_members}
use Rattle.toml.specs.Tables.{Document, Expression, no_nodes, close, define, key_value, array_table}
use Rattle.toml.specs.Parse.{line, lines, skip_bom, parse_document}
use Rattle.toml.specs.Text.{IsLineText}
use Rattle.toml.proofs.Turns.{lines_end, lines_more, lines_refused}
use Rattle.toml.proofs.Blanks.{skip_newline, skip_within}
use Rattle.toml.proofs.ReadLines.{AllPrinted, run, line_turn}

-- each line writes its expression
abbrev pub AreLines : List Expression → List (List ℕ) → Type 0
AreLines [] [] = Unit {0}
AreLines [] (t ∷ ts) = ⊥
AreLines (e ∷ es) [] = ⊥
AreLines (e ∷ es) (t ∷ ts) = IsLineText true false e.0 e.1 t × AreLines es ts

abbrev pub joined : List (List ℕ) → List ℕ
joined [] = []
joined (t ∷ ts) = t ++ joined ts

read_step : (m : ℕ) (doc : Document) (x : List ℕ) (e : Expression) (after : List ℕ) (es : List Expression) (defined : Option Document) → defined ≡ define doc e → 0 < m → (length (skip_blank x) == 0) ≡ false
    → line (skip_blank x) ≡ Some (e, after) → ((next : Document) → lines (m - 1) next after ≡ option_and_then (λ n. run n es) (Some next)) → lines m doc x ≡ option_and_then (λ n. run n es) defined
read_step m doc x e after es None same some other read more = lines_refused m doc x e after some other read (sym same)
read_step m doc x e after es (Some next) same some other read more = lines_more m doc next x e after some other read (sym same) ∙ more next

all_read : (es : List Expression) (ts : List (List ℕ)) (x : List ℕ) (doc : Document) (m : ℕ) → AreLines es ts → AllPrinted es
    → skip_blank x ≡ skip_blank (joined ts) → length x < m → lines m doc x ≡ run doc es
all_read [] [] x doc m h ok skip room =
    lines_end m doc x (omega arith) (rw (skip, skip_from-nil true false) refl)
all_read [] (t ∷ ts) x doc m h ok skip room = absurd h
all_read (e ∷ es) [] x doc m h ok skip room = absurd h
all_read (e ∷ es) (t ∷ ts) x doc m h ok skip room =
    let (s, at_start, read, some, shorter, not_bom) = line_turn true false e.0 e.1 t (joined ts) h.0 ok.0 in
    let same : skip_blank x ≡ s = skip ∙ at_start in
    let other : (length (skip_blank x) == 0) ≡ false = rw same (grind (arith, nat_tests)) in
    let within = skip_within x in
    read_step m doc x e (10 ∷ joined ts) es (define doc e) refl (omega arith) other (rw same read) (λ next. all_read es ts (10 ∷ joined ts) next (m - 1) h.1 ok.1 (skip_newline (joined ts)) (omega (arith, ap length same)))

-- the lines of the text, and what each says
abbrev pair : List ℕ → Data → Expression
pair k d = (([], k), key_value d)

abbrev head_pairs : List Expression
head_pairs =
    pair (codes "title") (string (codes "DEMO"))
    ∷ pair (codes "rate") (integer (pos 24))
    ∷ pair (codes "width") (integer (pos 32))
    ∷ pair (codes "height") (integer (pos 18))
    ∷ pair (codes "edl") (string (codes "demo.edl"))
    ∷ []

abbrev reel_pairs : ℕ → List ℕ → List ℕ → List Expression
reel_pairs n name prefix =
    (([], codes "reel"), array_table)
    ∷ pair (codes "name") (string name)
    ∷ pair (codes "prefix") (string prefix)
    ∷ pair (codes "start") (string (codes "01:00:00:00"))
    ∷ pair (codes "frames") (integer (pos n))
    ∷ []

abbrev pub head_lines : List (List ℕ)
head_lines = codes "title = \"DEMO\"\n" ∷ codes "rate = 24\n" ∷ codes "width = 32\n" ∷ codes "height = 18\n" ∷ codes "edl = \"demo.edl\"\n" ∷ []

abbrev pub reel_lines : ℕ → List ℕ → List ℕ → List (List ℕ)
reel_lines n name prefix =
    codes "[[reel]]\n"
    ∷ (codes "name = " ++ (name ++ codes "\n"))
    ∷ (codes "prefix = " ++ (prefix ++ codes "\n"))
    ∷ codes "start = \"01:00:00:00\"\n"
    ∷ (codes "frames = " ++ (decimal n ++ codes "\n"))
    ∷ []

number_24 : codes "24" ≡ decimal 24
unfolding digits
number_24 = refl

number_32 : codes "32" ≡ decimal 32
unfolding digits
number_32 = refl

number_18 : codes "18" ≡ decimal 18
unfolding digits
number_18 = refl

head_are : AreLines head_pairs head_lines
unfolding string_text key_text encoding_of escaped needs_escape quotes_after
head_are = (
  (codes "\"DEMO\"", refl, refl),
  (
    (codes "24", refl, (number_24, omega arith)),
    (
      (codes "32", refl, (number_32, omega arith)),
      (
        (codes "18", refl, (number_18, omega arith)),
        ((codes "\"demo.edl\"", refl, refl), tt),
      ),
    ),
  ),
)

reel_are : (n : ℕ) (name prefix quoted_name quoted_prefix : List ℕ) → n < 2 ^ 63 → string_text name ≡ quoted_name → string_text prefix ≡ quoted_prefix
    → AreLines (reel_pairs n name prefix) (reel_lines n quoted_name quoted_prefix)
unfolding string_text key_text encoding_of escaped needs_escape quotes_after
reel_are n name prefix quoted_name quoted_prefix small names prefixes = (
  refl,
  (
    (quoted_name, refl, sym names),
    (
      (quoted_prefix, refl, sym prefixes),
      (
        (codes "\"01:00:00:00\"", refl, refl),
        ((decimal n, refl, (refl, omega arith)), tt),
      ),
    ),
  ),
)

are_append : (es fs : List Expression) (ts us : List (List ℕ)) → AreLines es ts → AreLines fs us → AreLines (es ++ fs) (ts ++ us)
are_append [] fs [] us h k = k
are_append [] fs (t ∷ ts) us h k = absurd h
are_append (e ∷ es) fs [] us h k = absurd h
are_append (e ∷ es) fs (t ∷ ts) us h k = (h.0, are_append es fs ts us h.1 k)

pub joined_append : (ts us : List (List ℕ)) → joined (ts ++ us) ≡ joined ts ++ joined us
joined_append [] us = refl
joined_append (t ∷ ts) us = ap (λ (l : List ℕ). t ++ l) (joined_append ts us) ∙ sym (append_assoc t (joined ts) (joined us))

abbrev all_pairs : ℕ → List Expression
all_pairs n =
    head_pairs
    ++ (reel_pairs n (codes "R0") (codes "r0.")
    ++ (reel_pairs n (codes "R1") (codes "r1.")
    ++ (reel_pairs n (codes "R2") (codes "r2.")
    ++ reel_pairs n (codes "R3") (codes "r3."))))

abbrev pub all_lines : ℕ → List (List ℕ)
all_lines n =
    head_lines
    ++ (reel_lines n (codes "\"R0\"") (codes "\"r0.\"")
    ++ (reel_lines n (codes "\"R1\"") (codes "\"r1.\"")
    ++ (reel_lines n (codes "\"R2\"") (codes "\"r2.\"")
    ++ reel_lines n (codes "\"R3\"") (codes "\"r3.\""))))

all_are : (n : ℕ) → n < 2 ^ 63 → AreLines (all_pairs n) (all_lines n)
unfolding string_text key_text encoding_of escaped needs_escape quotes_after
all_are n small =
    are_append head_pairs ((reel_pairs n (codes "R0") (codes "r0.")) ++ ((reel_pairs n (codes "R1") (codes "r1.")) ++ ((reel_pairs n (codes "R2") (codes "r2.")) ++ (reel_pairs n (codes "R3") (codes "r3."))))) head_lines ((reel_lines n (codes "\"R0\"") (codes "\"r0.\"")) ++ ((reel_lines n (codes "\"R1\"") (codes "\"r1.\"")) ++ ((reel_lines n (codes "\"R2\"") (codes "\"r2.\"")) ++ (reel_lines n (codes "\"R3\"") (codes "\"r3.\""))))) head_are
    (are_append (reel_pairs n (codes "R0") (codes "r0.")) ((reel_pairs n (codes "R1") (codes "r1.")) ++ ((reel_pairs n (codes "R2") (codes "r2.")) ++ (reel_pairs n (codes "R3") (codes "r3.")))) (reel_lines n (codes "\"R0\"") (codes "\"r0.\"")) ((reel_lines n (codes "\"R1\"") (codes "\"r1.\"")) ++ ((reel_lines n (codes "\"R2\"") (codes "\"r2.\"")) ++ (reel_lines n (codes "\"R3\"") (codes "\"r3.\"")))) (reel_are n (codes "R0") (codes "r0.") (codes "\"R0\"") (codes "\"r0.\"") small refl refl)
    (are_append (reel_pairs n (codes "R1") (codes "r1.")) ((reel_pairs n (codes "R2") (codes "r2.")) ++ (reel_pairs n (codes "R3") (codes "r3."))) (reel_lines n (codes "\"R1\"") (codes "\"r1.\"")) ((reel_lines n (codes "\"R2\"") (codes "\"r2.\"")) ++ (reel_lines n (codes "\"R3\"") (codes "\"r3.\""))) (reel_are n (codes "R1") (codes "r1.") (codes "\"R1\"") (codes "\"r1.\"") small refl refl)
    (are_append (reel_pairs n (codes "R2") (codes "r2.")) (reel_pairs n (codes "R3") (codes "r3.")) (reel_lines n (codes "\"R2\"") (codes "\"r2.\"")) (reel_lines n (codes "\"R3\"") (codes "\"r3.\"")) (reel_are n (codes "R2") (codes "r2.") (codes "\"R2\"") (codes "\"r2.\"") small refl refl)
    (reel_are n (codes "R3") (codes "r3.") (codes "\"R3\"") (codes "\"r3.\"") small refl refl))))

-- the table of the text
abbrev pub reel_table : ℕ → List ℕ → List ℕ → Data
reel_table n name prefix = table (
    member (codes "frames") (integer (pos n))
    (member (codes "name") (string name)
    (member (codes "prefix") (string prefix)
    (member (codes "start") (string (codes "01:00:00:00")) no_members))))

abbrev pub project_table : ℕ → Members
project_table n =
    member (codes "edl") (string (codes "demo.edl"))
    (member (codes "height") (integer (pos 18))
    (member (codes "rate") (integer (pos 24))
    (member (codes "reel") (array (
    item (reel_table n (codes "R0") (codes "r0."))
    (item (reel_table n (codes "R1") (codes "r1."))
    (item (reel_table n (codes "R2") (codes "r2."))
    (item (reel_table n (codes "R3") (codes "r3.")) no_items)))))
    (member (codes "title") (string (codes "DEMO"))
    (member (codes "width") (integer (pos 32)) no_members)))))

all_run : (n : ℕ) → option_map (λ (doc : Document). close doc.0) (run (no_nodes, []) (all_pairs n)) ≡ Some (project_table n)
unfolding toml_on_literals
all_run n = refl

printed : (n : ℕ) → AllPrinted (all_pairs n)
printed n = search (arith)

-- the text
abbrev pub text_of : ℕ → List ℕ
text_of n = joined (all_lines n)

no_mark : (n : ℕ) → skip_bom (text_of n) ≡ text_of n
unfolding skip_bom
no_mark n = refl

pub parses : (n : ℕ) → n < 2 ^ 63 → parse_document (text_of n) ≡ Some (project_table n)
unfolding parse_document
parses n small =
    rw (no_mark n, all_read (all_pairs n) (all_lines n) (text_of n) (no_nodes, []) (suc (length (text_of n))) (all_are n small) (printed n) refl (omega arith)) (all_run n)
