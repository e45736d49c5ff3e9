-- Formats, put together from forms: numbers, bytes, one after another, many of one, a list after its count, bytes after their length.
-- Assumes nothing.
use Rattle.std.specs.Prelude.{◌≡◌, refl, List, ◌++◌, ℕ, ◌^◌, ◌<◌, length}
use Rattle.std.proofs.Common.{subst, ◌∙◌}
use Rattle.std.proofs.Math.Option.{some}
use Rattle.lists.specs.All.{Bytes}
use Rattle.lists.specs.LittleEndian.{encode, decode, length-encode, decode-encode}
use Rattle.lists.specs.Form.{Form, front, get₂, put₂, Ok₂, get_fixed, get_as, put_all, get_all, OkAll}
use Rattle.lists.specs.FormLaws.{front-put, num-written, bytes-written, read_back₂, was-written₂}
use Rattle.lists.specs.FormLaws.{fixed_read_back, fixed-was-written, as_read_back, as_was_written}
use Rattle.lists.specs.FormLaws.{all_read_back, all_was_written}

-- a number of w bytes
abbrev pub num : ℕ → Form ℕ
num w = record {
  ok = λ n. n < 256 ^ w;
  put = encode w;
  get = front w decode;
  read_back = λ n r h. front-put w decode (encode w n) r (length-encode w n) ∙ rw (decode-encode w n h);
  was-written = num-written w;
}

-- n bytes as they are
abbrev pub bytes : ℕ → Form (List ℕ)
bytes n = record {
  ok = λ b. (length b ≡ n) × Bytes b;
  put = λ b. b;
  get = front n (λ b. b);
  read_back = λ b r h. front-put n (λ b. b) b r h.0;
  was-written = bytes-written n;
}

-- one form after another, which may hang on the first's value
module _ {A B : Type 0} (F : Form A) (G : A → Form B) where
  abbrev pub then : Form (A × B)
  then = record { ok = Ok₂ F G; put = put₂ F G; get = get₂ F G; read_back = read_back₂ F G; was-written = was-written₂ F G }

-- a form behind fixed bytes
abbrev pub fixed : {A : Type 0} → List ℕ → Form A → Form A
fixed bs F = record {
  ok = F.ok;
  put = λ a. bs ++ F.put a;
  get = get_fixed bs F;
  read_back = fixed_read_back bs F;
  was-written = fixed-was-written bs F;
}

-- the same bytes for another type: `to` and `from` undo each other on what the bytes hold
module _ {A B : Type 0} (to : A → B) (from : B → A) (F : Form A) (there : (b : B) → to (from b) ≡ b) (back : (a : A) → F.ok a → from (to a) ≡ a) where
  abbrev pub as_form : Form B
  as_form = record {
    ok = λ b. F.ok (from b);
    put = λ b. F.put (from b);
    get = get_as to F;
    read_back = as_read_back to from F there back;
    was-written = as_was_written to from F there back;
  }

-- n times the same form
module _ {A : Type 0} (F : Form A) where
  abbrev pub times : ℕ → Form (List A)
  times n = record {
    ok = OkAll F n;
    put = put_all F;
    get = get_all F n;
    read_back = λ xs r h. subst (λ m. get_all F m (put_all F xs ++ r) ≡ some (xs, r)) h.0 (all_read_back F xs r h.1);
    was-written = all_was_written F n;
  }

-- a list after its count of w bytes
abbrev pub counted : {A : Type 0} → ℕ → Form A → Form (List A)
counted w F = as_form (λ p. p.1) (λ xs. (length xs, xs)) (then (num w) (λ n. times F n)) (λ xs. refl) (λ p h. λ k. (h.1.0 k, p.1))

-- bytes after their length of w bytes
abbrev pub text : ℕ → Form (List ℕ)
text w = as_form (λ p. p.1) (λ b. (length b, b)) (then (num w) (λ n. bytes n)) (λ b. refl) (λ p h. λ k. (h.1.0 k, p.1))
