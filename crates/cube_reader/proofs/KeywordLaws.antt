-- What the keyword of a line, or the want of one, decides of the line's tests.
use Rattle.std.proofs.Common.{◌≡◌, ℕ, true, false, List, [], ◌∷◌, length, refl, sym, ◌∙◌, get_or, ◌⊎◌, inl, inr}
use Rattle.std.specs.Prelude.{None, ◌==◌, ◌||◌}
use Rattle.std.specs.Str.{bytes_eq}
use Rattle.std.proofs.lemmas.Bool.{cases_Bool, true≢false, eqb-true, eq-eqb, or_from, or_right}
use Rattle.std.proofs.lemmas.Slice.Eq.{bytes_eq-Decides}
use Rattle.cube_reader.specs.declared.keywords.Keyword.{Keyword}
use Rattle.cube_reader.specs.declared.keywords.Keyword.TheVariants.{Title, LineSize, CubeSize, DomainMin, DomainMax, LineRange, CubeRange}
use Rattle.cube_reader.specs.declared.keywords.Keywords.{Keywords}
use Rattle.cube_reader.specs.Text.{Line, word, is_passed_over, is_data, is_known, is_size_line, low_set, high_set}
use Rattle.cube_reader.specs.inside.Steps.{spelling, is_word, names, has_stood, noted}
use Rattle.cube_reader.proofs.WordLaws.{never_some}

-- a keyword begins as no number does
pub no_data : (k : Keyword) (line : Line) → word line ≡ spelling k → is_data line ≡ false
no_data Title line e = rw e refl
no_data LineSize line e = rw e refl
no_data CubeSize line e = rw e refl
no_data DomainMin line e = rw e refl
no_data DomainMax line e = rw e refl
no_data LineRange line e = rw e refl
no_data CubeRange line e = rw e refl

-- nor as a comment does
pub no_comment : (k : Keyword) (w : List ℕ) → w ≡ spelling k → (get_or w 0 0 == 35) ≡ false
no_comment Title w e = rw e refl
no_comment LineSize w e = rw e refl
no_comment CubeSize w e = rw e refl
no_comment DomainMin w e = rw e refl
no_comment DomainMax w e = rw e refl
no_comment LineRange w e = rw e refl
no_comment CubeRange w e = rw e refl

pub some_word : (k : Keyword) → is_word k [] ≡ false
some_word Title = refl
some_word LineSize = refl
some_word CubeSize = refl
some_word DomainMin = refl
some_word DomainMax = refl
some_word LineRange = refl
some_word CubeRange = refl

pub known : (k : Keyword) (line : Line) → word line ≡ spelling k → is_known line ≡ true
known Title line e = rw e refl
known LineSize line e = rw e refl
known CubeSize line e = rw e refl
known DomainMin line e = rw e refl
known DomainMax line e = rw e refl
known LineRange line e = rw e refl
known CubeRange line e = rw e refl

-- no line has a word of which it is known that it has another
pub not_word : (k : Keyword) (line : Line) → (word line ≡ spelling k → ⊥) → is_word k line ≡ false
not_word k line other = elim (cases_Bool (is_word k line)) [
  | inl t ↦ absurd (other ((bytes_eq-Decides (word line) (spelling k)).0 t))
  | inr f ↦ f
]

pub no_word : (line : Line) → is_data line ≡ true → (k : Keyword) → is_word k line ≡ false
no_word line begins k = not_word k line (λ e. true≢false (sym begins ∙ no_data k line e))

begins_comment : (w : List ℕ) (more : Line) → is_passed_over (w ∷ more) ≡ true → (get_or w 0 0 == 35) ≡ true
begins_comment w more h = rw (never_some (length more)) at h

pub comment_passed : (line : Line) (w : List ℕ) (more : Line) → line ≡ w ∷ more → get_or w 0 0 ≡ 35 → is_passed_over line ≡ true
comment_passed line w more first mark = rw first (or_right _ _ (eq-eqb (get_or w 0 0) 35 mark))

pub passed_no_word : (line : Line) → is_passed_over line ≡ true → (k : Keyword) → is_word k line ≡ false
passed_no_word [] h k = some_word k
passed_no_word (w ∷ more) h k = not_word k (w ∷ more) (λ e. true≢false (sym (begins_comment w more h) ∙ no_comment k w e))

pub passed_no_data : (line : Line) → is_passed_over line ≡ true → is_data line ≡ false
passed_no_data [] h = refl
passed_no_data (w ∷ more) h = let e : get_or w 0 0 ≡ 35 = eqb-true _ _ (begins_comment w more h) in rw e refl

pub unknown : (line : Line) → ((k : Keyword) → word line ≡ spelling k → ⊥) → is_known line ≡ false
unknown line other =
    rw (not_word Title line (other Title), not_word LineSize line (other LineSize), not_word CubeSize line (other CubeSize), not_word DomainMin line (other DomainMin), not_word DomainMax line (other DomainMax), not_word LineRange line (other LineRange), not_word CubeRange line (other CubeRange)) refl

-- a word is one of the keywords, or none
pub keyword_cases : (w : List ℕ) → ((k : Keyword) × (w ≡ spelling k)) ⊎ ((k : Keyword) → w ≡ spelling k → ⊥)
keyword_cases w = by_test Title (λ a. by_test LineSize (λ b. by_test CubeSize (λ c. by_test DomainMin (λ d. by_test DomainMax (λ e. by_test LineRange (λ f. by_test CubeRange (λ g. inr (all a b c d e f g))))))))
  where
    Answer : Type 0
    Answer = ((k : Keyword) × (w ≡ spelling k)) ⊎ ((k : Keyword) → w ≡ spelling k → ⊥)

    by_test : (k : Keyword) → ((w ≡ spelling k → ⊥) → Answer) → Answer
    by_test k more = elim (cases_Bool (bytes_eq w (spelling k))) [
      | inl t ↦ inl (k, (bytes_eq-Decides w (spelling k)).0 t)
      | inr f ↦ more (λ e. true≢false (sym ((bytes_eq-Decides w (spelling k)).1 e) ∙ f))
    ]

    all : (w ≡ spelling Title → ⊥) → (w ≡ spelling LineSize → ⊥) → (w ≡ spelling CubeSize → ⊥) → (w ≡ spelling DomainMin → ⊥) → (w ≡ spelling DomainMax → ⊥) → (w ≡ spelling LineRange → ⊥) → (w ≡ spelling CubeRange → ⊥)
        → (k : Keyword) → w ≡ spelling k → ⊥
    all a b c d e f g Title = a
    all a b c d e f g LineSize = b
    all a b c d e f g CubeSize = c
    all a b c d e f g DomainMin = d
    all a b c d e f g DomainMax = e
    all a b c d e f g LineRange = f
    all a b c d e f g CubeRange = g

-- what a line sets that is no keyword line
pub no_size_set : (line : Line) → ((k : Keyword) → is_word k line ≡ false) → is_size_line line ≡ false
no_size_set line none = or_from _ _ (none LineSize) (none CubeSize)

pub no_low_set : (line : Line) → ((k : Keyword) → is_word k line ≡ false) → low_set line ≡ None
no_low_set line none = rw (none DomainMin, none LineRange, none CubeRange) refl

pub no_high_set : (line : Line) → ((k : Keyword) → is_word k line ≡ false) → high_set line ≡ None
no_high_set line none = rw (none DomainMax, none LineRange, none CubeRange) refl

-- a keyword more has stood
pub has_noted : (s : Keywords) (k j : Keyword) → has_stood (noted s k) j ≡ (names k j || has_stood s j)
has_noted s k Title = refl
has_noted s k LineSize = refl
has_noted s k CubeSize = refl
has_noted s k DomainMin = refl
has_noted s k DomainMax = refl
has_noted s k LineRange = refl
has_noted s k CubeRange = refl
