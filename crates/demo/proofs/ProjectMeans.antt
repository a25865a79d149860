-- The project text of the demonstration comes to its project.
use Rattle.std.proofs.Common.{◌≡◌, ℕ, ◌<◌, ◌≤◌, ◌^◌, true, List, [], ◌∷◌, ◌++◌, length, codes, None, refl, sym, ap, ◌∙◌, arith, length-append, inr, append_assoc, append-nil, subst, zero, suc}
use Rattle.std.specs.Prelude.{decimal, Ok, nat_lt}
use Rattle.std.specs.Str.{IsAscii}
use Rattle.std.specs.List.{list_all}
use Rattle.std.proofs.lemmas.Bool.{le-leb, ltb-true, and_parts}
use Rattle.std.proofs.lemmas.Str.{IsAscii-append, IsUtf8-from_ascii}
use Rattle.std.proofs.lemmas.Fmt.{IsAscii-decimal, length-decimal-le}
use Rattle.cf_base.specs.declared.timing.Rate.TheVariants.{R24}
use Rattle.cf_base.specs.declared.reel.ReelEntry.{ReelEntry}
use Rattle.toml.specs.Parse.{parse_document}
use Rattle.project_file.specs.Projects.{Means, project_of, usual_black}
use Rattle.project_file.specs.declared.Project.{Project}
use Rattle.demo.specs.Counts.{source_count}
use Rattle.demo.specs.Texts.{project_text, head_text, reel_text}
use Rattle.demo.proofs.ProjectText.{text_of, head_lines, reel_lines, joined, joined_append, project_table, parses}

-- a source reel, and the project
abbrev pub entry : ℕ → List ℕ → List ℕ → ReelEntry
entry n name prefix = record { name = name; prefix = prefix; start = 86400; day = 2073600; frames = n; file = 86400 }

abbrev pub entries : ℕ → List ReelEntry
entries n = entry n (codes "R0") (codes "r0.") ∷ entry n (codes "R1") (codes "r1.") ∷ entry n (codes "R2") (codes "r2.") ∷ entry n (codes "R3") (codes "r3.") ∷ []

abbrev pub project : ℕ → Project
project n = record {
  title = codes "DEMO";
  rate = R24;
  width = 32;
  height = 18;
  black = usual_black;
  bands = 4;
  edl = codes "demo.edl";
  cube = None;
  reels = entries n;
  cuts = [];
}

reads : (n : ℕ) → 1 ≤ n → n ≤ 2592000 → project_of (project_table n) ≡ Ok (project n)
reads n some most = rw (le-leb 1 n some, le-leb n 2592000 most) refl

-- the text is that of the definition
frames_same : (count end : List ℕ) → (codes "frames = " ++ (count ++ end)) ++ [] ≡ (codes "frames = " ++ count) ++ end
frames_same count end = append-nil (codes "frames = " ++ (count ++ end)) ∙ sym (append_assoc (codes "frames = ") count end)

reel_same_0 : (n : ℕ) → joined (reel_lines n (codes "\"R0\"") (codes "\"r0.\"")) ≡ reel_text n 0
unfolding reel_text
reel_same_0 n = ap (λ (l : List ℕ). codes "[[reel]]\nname = \"R0\"\nprefix = \"r0.\"\nstart = \"01:00:00:00\"\n" ++ l) (frames_same (decimal n) (10 ∷ []))

reel_same_1 : (n : ℕ) → joined (reel_lines n (codes "\"R1\"") (codes "\"r1.\"")) ≡ reel_text n 1
unfolding reel_text
reel_same_1 n = ap (λ (l : List ℕ). codes "[[reel]]\nname = \"R1\"\nprefix = \"r1.\"\nstart = \"01:00:00:00\"\n" ++ l) (frames_same (decimal n) (10 ∷ []))

reel_same_2 : (n : ℕ) → joined (reel_lines n (codes "\"R2\"") (codes "\"r2.\"")) ≡ reel_text n 2
unfolding reel_text
reel_same_2 n = ap (λ (l : List ℕ). codes "[[reel]]\nname = \"R2\"\nprefix = \"r2.\"\nstart = \"01:00:00:00\"\n" ++ l) (frames_same (decimal n) (10 ∷ []))

reel_same_3 : (n : ℕ) → joined (reel_lines n (codes "\"R3\"") (codes "\"r3.\"")) ≡ reel_text n 3
unfolding reel_text
reel_same_3 n = ap (λ (l : List ℕ). codes "[[reel]]\nname = \"R3\"\nprefix = \"r3.\"\nstart = \"01:00:00:00\"\n" ++ l) (frames_same (decimal n) (10 ∷ []))

head_same : joined head_lines ≡ head_text
unfolding head_text
head_same = refl

same_text : (n : ℕ) → text_of n ≡ head_text ++ (reel_text n 0 ++ (reel_text n 1 ++ (reel_text n 2 ++ (reel_text n 3 ++ []))))
same_text n =
    let l0 = reel_lines n (codes "\"R0\"") (codes "\"r0.\"") in
    let l1 = reel_lines n (codes "\"R1\"") (codes "\"r1.\"") in
    let l2 = reel_lines n (codes "\"R2\"") (codes "\"r2.\"") in
    let l3 = reel_lines n (codes "\"R3\"") (codes "\"r3.\"") in
    let three : joined (l2 ++ l3) ≡ reel_text n 2 ++ (reel_text n 3 ++ []) = joined_append l2 l3 ∙ ap (λ (l : List ℕ). joined l2 ++ l) (reel_same_3 n ∙ sym (append-nil (reel_text n 3))) ∙ ap (λ (l : List ℕ). l ++ (reel_text n 3 ++ [])) (reel_same_2 n) in
    let two : joined (l1 ++ (l2 ++ l3)) ≡ reel_text n 1 ++ (reel_text n 2 ++ (reel_text n 3 ++ [])) = joined_append l1 (l2 ++ l3) ∙ ap (λ (l : List ℕ). joined l1 ++ l) three ∙ ap (λ (l : List ℕ). l ++ (reel_text n 2 ++ (reel_text n 3 ++ []))) (reel_same_1 n) in
    let one : joined (l0 ++ (l1 ++ (l2 ++ l3))) ≡ reel_text n 0 ++ (reel_text n 1 ++ (reel_text n 2 ++ (reel_text n 3 ++ []))) = joined_append l0 (l1 ++ (l2 ++ l3)) ∙ ap (λ (l : List ℕ). joined l0 ++ l) two ∙ ap (λ (l : List ℕ). l ++ (reel_text n 1 ++ (reel_text n 2 ++ (reel_text n 3 ++ [])))) (reel_same_0 n) in
    joined_append head_lines (l0 ++ (l1 ++ (l2 ++ l3))) ∙ ap (λ (l : List ℕ). joined head_lines ++ l) one ∙ ap (λ (l : List ℕ). l ++ (reel_text n 0 ++ (reel_text n 1 ++ (reel_text n 2 ++ (reel_text n 3 ++ []))))) head_same

-- each byte is ASCII
by_test : (l : List ℕ) → list_all (λ b. nat_lt b 128) l ≡ true → IsAscii l
by_test [] h i = omega arith
by_test (b ∷ l) h zero = ltb-true b 128 (and_parts _ _ h).0
by_test (b ∷ l) h (suc i) = by_test l (and_parts _ _ h).1 i

reel_ascii : (n : ℕ) (front : List ℕ) → n < 2 ^ 64 → IsAscii front → IsAscii (front ++ ((codes "frames = " ++ decimal n) ++ codes "\n"))
reel_ascii n front small ok = IsAscii-append front _ ok (IsAscii-append (codes "frames = " ++ decimal n) (codes "\n") (IsAscii-append (codes "frames = ") (decimal n) (by_test (codes "frames = ") refl) (IsAscii-decimal n small)) (by_test (codes "\n") refl))

ascii_0 : (n : ℕ) → n < 2 ^ 64 → IsAscii (reel_text n 0)
unfolding reel_text
ascii_0 n small = reel_ascii n (codes "[[reel]]\nname = \"R0\"\nprefix = \"r0.\"\nstart = \"01:00:00:00\"\n") small (by_test (codes "[[reel]]\nname = \"R0\"\nprefix = \"r0.\"\nstart = \"01:00:00:00\"\n") refl)

ascii_1 : (n : ℕ) → n < 2 ^ 64 → IsAscii (reel_text n 1)
unfolding reel_text
ascii_1 n small = reel_ascii n (codes "[[reel]]\nname = \"R1\"\nprefix = \"r1.\"\nstart = \"01:00:00:00\"\n") small (by_test (codes "[[reel]]\nname = \"R1\"\nprefix = \"r1.\"\nstart = \"01:00:00:00\"\n") refl)

ascii_2 : (n : ℕ) → n < 2 ^ 64 → IsAscii (reel_text n 2)
unfolding reel_text
ascii_2 n small = reel_ascii n (codes "[[reel]]\nname = \"R2\"\nprefix = \"r2.\"\nstart = \"01:00:00:00\"\n") small (by_test (codes "[[reel]]\nname = \"R2\"\nprefix = \"r2.\"\nstart = \"01:00:00:00\"\n") refl)

ascii_3 : (n : ℕ) → n < 2 ^ 64 → IsAscii (reel_text n 3)
unfolding reel_text
ascii_3 n small = reel_ascii n (codes "[[reel]]\nname = \"R3\"\nprefix = \"r3.\"\nstart = \"01:00:00:00\"\n") small (by_test (codes "[[reel]]\nname = \"R3\"\nprefix = \"r3.\"\nstart = \"01:00:00:00\"\n") refl)

ascii_head : IsAscii head_text
unfolding head_text
ascii_head = by_test head_text refl

abbrev whole : ℕ → List ℕ
whole n = head_text ++ (reel_text n 0 ++ (reel_text n 1 ++ (reel_text n 2 ++ (reel_text n 3 ++ []))))

ascii : (n : ℕ) → n < 2 ^ 64 → IsAscii (whole n)
ascii n small =
    IsAscii-append head_text _ ascii_head
    (IsAscii-append (reel_text n 0) _ (ascii_0 n small)
    (IsAscii-append (reel_text n 1) _ (ascii_1 n small)
    (IsAscii-append (reel_text n 2) _ (ascii_2 n small)
    (IsAscii-append (reel_text n 3) [] (ascii_3 n small) (by_test [] refl)))))

size : (n : ℕ) → n < 10 ^ 7 → length (text_of n) ≤ 1000
size n small =
    let d = length-decimal-le 7 n (omega arith) small (omega arith) in
    simp length-append (omega arith)

pub means : (events : ℕ) → source_count events ≤ 2592000 → Means (project_text events) (Ok (project (source_count events)))
means events most =
    let n = source_count events in
    inr (
      project_table n,
      (
        subst (λ (t : List ℕ). length t ≤ 1048576) (same_text n) (omega (arith, size n (omega arith))),
        (IsUtf8-from_ascii (whole n) (ascii n (omega arith))),
        ap parse_document (sym (same_text n)) ∙ parses n (omega arith),
      ),
      sym (reads n (omega arith) most),
    )
