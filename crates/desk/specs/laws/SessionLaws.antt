-- Lines answered one after another, one more at a time.
-- Assumes nothing.
use Rattle.std.specs.Prelude.{◌≡◌, refl, drop}
use Rattle.std.proofs.Common.{sym, ◌∙◌, length-append, take-suc, take_all, length-take-le}
use Rattle.std.proofs.Math.Path.{ap, ap₂, subst}
use mathlib.Core.List.{List, [], ◌∷◌, ◌++◌, append_assoc, append-nil}
use Prim.Native.Nat.{ℕ, suc, ◌+◌, ◌-◌, ◌≤◌, ◌<◌}
use native.Mathlib.Omega.{arith}
use Rattle.std.proofs.Math.ListN.{length, take, get_or, length-drop}
use Rattle.std.proofs.Math.Seq.{take-add}
use borrow.Author.Tests.{eqb-true}
use Rattle.lists.specs.All.{both, none, all_append}
use Rattle.lists.specs.Parts.{part}
use Rattle.lists.specs.PartLaws.{overwrite_none}
use Rattle.lists.specs.Search.{place, place-passes}
use Rattle.lists.specs.Scans.{every-before}
use Rattle.text.specs.Line.{is_newline, LineEnd}
use Rattle.configuration.specs.Delivered.{delivered}
use Rattle.machine.specs.Machine.{State, guard as digest_store}
use Rattle.guard.specs.Promise.{held}
use Rattle.desk_lines.specs.Lines.{DeskLine, line_of, Puts, Prints}
use Rattle.desk_lines.specs.laws.Printing.{overwrite_behind, prints_more}
use Rattle.desk.specs.Answered.{printed_for, state_for, Answers}
use Rattle.desk.specs.Session.{OneLine, text_of, printed_through, state_through, AnswersAt, Through}

-- an answer that was written into the part of a buffer from i on
pub answers_at : (m : List ℕ) (x : DeskLine) (i n r : ℕ) (m' d e : List ℕ) → n ≡ length d → i ≤ n
    → Answers m x r m' (take (n - i) (drop i d)) e
    → AnswersAt m x i (i + r) m' d (take i d ++ (e ++ drop (n - i) (drop i d)))
answers_at m x i n r m' d e same low a =
    let f = a.fits in
    let l₁ = length-append (take i d) (e ++ drop (n - i) (drop i d)) in
    let l₂ = length-append e (drop (n - i) (drop i d)) in
    let l₃ = length-take-le i d (omega arith) in
    record {
      puts = λ k. record {
        buffer = ap (λ (z : List ℕ). take i d ++ (z ++ drop (n - i) (drop i d))) (a.prints k).buffer
            ∙ overwrite_behind d (printed_for (held m) x) i n same;
        end = ap (λ (z : ℕ). i + z) (a.prints k).count;
      };
      state = a.state;
      kept = a.kept;
      fits = omega arith;
      after = omega arith;
      same_length = a.same_length;
    }

-- one line more
text-more : (ls : List (List ℕ)) (l : List ℕ) → text_of (ls ++ (l ∷ [])) ≡ text_of ls ++ (l ++ (10 ∷ []))
unfolding text_of
text-more [] l = refl
text-more (x ∷ ls) l = ap (λ (z : List ℕ). x ++ (10 ∷ z)) (text-more ls l)
    ∙ sym (append_assoc x (10 ∷ text_of ls) (l ++ (10 ∷ [])))

state_more : (s : State (digest_store delivered)) (ls : List (List ℕ)) (l : List ℕ)
    → state_through s (ls ++ (l ∷ [])) ≡ state_for (state_through s ls) (line_of l)
unfolding state_through
state_more s [] l = refl
state_more s (x ∷ ls) l = state_more (state_for s (line_of x)) ls l

printed-more : (s : State (digest_store delivered)) (ls : List (List ℕ)) (l : List ℕ)
    → printed_through s (ls ++ (l ∷ [])) ≡ printed_through s ls ++ printed_for (state_through s ls) (line_of l)
unfolding printed_through state_through
printed-more s [] l = append-nil _
printed-more s (x ∷ ls) l =
    ap (λ (z : List ℕ). printed_for s (line_of x) ++ z) (printed-more (state_for s (line_of x)) ls l)
    ∙ sym (append_assoc (printed_for s (line_of x)) _ _)

-- the line from a to its end
module _ (text : List ℕ) (a e : ℕ) (line : LineEnd text a e) where
  abbrev rest : List ℕ
  rest = drop a text

  abbrev size : ℕ
  size = place is_newline rest

  size_is : e - a ≡ size
  size_is = let f = line.found in omega arith

  one_line : OneLine (part a (e - a) text)
  unfolding part
  one_line = subst (λ (n : ℕ). OneLine (take n rest)) (sym size_is) (every-before is_newline rest)

  -- a line feed ends it
  pub ended : e < length text → take (e + 1) text ≡ take a text ++ (part a (e - a) text ++ (10 ∷ []))
  unfolding part
  ended h =
      let f = line.found in
      let l : length rest ≡ length text - a = length-drop a text in
      let inside : size < length rest = omega arith in
      let ten : get_or rest size 0 ≡ 10 = eqb-true _ 10 (place-passes is_newline rest 0 inside) in
      let n : e + 1 ≡ a + suc size = omega arith in
      ap (λ (k : ℕ). take k text) n ∙ take-add a (suc size) text
      ∙ ap (λ (z : List ℕ). take a text ++ z)
      (take-suc rest size 0 inside ∙ ap₂ (λ (k x : ℕ). take k rest ++ (x ∷ [])) (sym size_is) ten)

  -- nothing ends it
  pub unended : e ≡ length text → OneLine rest
  unended h =
      let f = line.found in
      let l : length rest ≡ length text - a = length-drop a text in
      subst OneLine (take_all size rest (omega arith)) (every-before is_newline rest)

-- no line
pub through_none : (m text d : List ℕ) → Through m text 0 0 m d d
unfolding text_of printed_through state_through
through_none m text d = record {
  lines = [];
  are_lines = none;
  taken = refl;
  prints = λ _. record { buffer = sym (overwrite_none 0 d 0); count = refl; fits = omega arith };
  state = λ _. refl;
  kept = λ k. k;
  within = omega arith;
  fits = omega arith;
  same_length = refl;
}

pub through_more : (m text : List ℕ) (a k : ℕ) (m₁ d d₁ : List ℕ) (e r : ℕ) (m₂ d₂ : List ℕ)
    → Through m text a k m₁ d d₁ → LineEnd text a e → e < length text
    → AnswersAt m₁ (line_of (part a (e - a) text)) k r m₂ d₁ d₂ → Through m text (e + 1) r m₂ d d₂
through_more m text a k m₁ d d₁ e r m₂ d₂ t line h x =
    let l = part a (e - a) text in
    let s = x.same_length in
    record {
      lines = t.lines ++ (l ∷ []);
      are_lines = all_append t.are_lines (both (one_line text a e line) none);
      taken = ended text a e line h ∙ ap (λ (z : List ℕ). z ++ (l ++ (10 ∷ []))) t.taken
          ∙ sym (text-more t.lines l);
      prints = λ q. subst (λ (z : List ℕ). Prints z r d d₂) (sym (printed-more (held m) t.lines l))
          (prints_more _ _ d d₁ d₂ k r (t.prints q)
          (subst (λ (z : State (digest_store delivered)). Puts (printed_for z (line_of l)) k r d₁ d₂) (t.state q)
          (x.puts (t.kept q))));
      state = λ q. x.state (t.kept q) ∙ ap (λ (z : State (digest_store delivered)). state_for z (line_of l)) (t.state q)
          ∙ sym (state_more (held m) t.lines l);
      kept = λ q. x.kept (t.kept q);
      within = omega arith;
      fits = x.fits;
      same_length = s ∙ t.same_length;
    }
