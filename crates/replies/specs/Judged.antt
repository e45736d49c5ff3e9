-- What a reply is judged to be: the first of its stop reasons that holds, else 0.
--   reason_for t r p     the stop reason of the reply r to what is pending, or 0
--   status_of            the same of a status
--   page_reason          the same of a page, by the digest that is kept of it
-- Assumes nothing.
use Rattle.std.specs.Prelude.{ℕ, Bool, false, not, List, [], ◌∷◌, ℤ, pos, negsuc, eqb, length}
use Rattle.lists.specs.Pick.{pick}
use Rattle.lists.specs.Equal.{equal}
use Rattle.lists.specs.Checks.{decide}
use Rattle.digest.specs.Sha256.{sha256}
use Rattle.filesystem.specs.Tables.{PAGE_BYTES, ID_BYTES, Tables, fresh_tables}
use Rattle.rules.specs.Requests.{Pending}
use Rattle.rules.specs.Rules.{signed_of, length_check, status_checks, reply_checks}

unfoldable pub reason_for : Tables → List ℕ → Pending → ℕ
reason_for t r p = decide (λ n. n) (reply_checks ID_BYTES t r p) 0

-- the same of a status, whatever the tables are
unfoldable pub status_reason : List ℕ → (expected : ℕ) → ℕ
status_reason r n = decide (λ n. n) (status_checks ID_BYTES fresh_tables r n) 0

unfoldable pub is_negative : ℕ → ℤ → Bool
is_negative n (pos m) = false
is_negative n (negsuc m) = eqb m n

-- the same of any number; -28 is what a full disk says
abbrev pub status_of : List ℕ → (expected : ℤ) → ℕ
status_of r (pos n) = status_reason r n
status_of r (negsuc n) =
    decide (λ i. i) (length_check ID_BYTES fresh_tables r 4 ∷ (2, not (is_negative n (signed_of r))) ∷ []) 0

-- the stop reason of a page's bytes, by the digest that is kept of it; 0 where there is none
unfoldable pub page_reason : (kept bytes : List ℕ) → ℕ
page_reason d x = pick (eqb (length x) PAGE_BYTES) (pick (equal (sha256 x) d) 0 5) 1
