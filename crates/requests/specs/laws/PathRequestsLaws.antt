-- Laws of specs/PathRequests.antt.
-- Assumes nothing.
use Rattle.std.specs.Prelude.{◌≡◌, true, false, List, ◌∷◌, ◌++◌, ℕ, ◌≤◌, ◌<◌, eqb, length}
use Rattle.std.proofs.Math.Path.{refl}
use Rattle.std.proofs.Common.{arith, le-leb}
use Rattle.std.proofs.lemmas.Bool.{lt-leb}
use Rattle.lists.specs.Pick.{pick, pick_true, pick-false}
use Rattle.lists.specs.Parts.{overwrite}
use Rattle.lists.specs.PartLaws.{overwrite_next}
use Rattle.filesystem.specs.Paths.{Path, path_bytes}
use Rattle.rules.specs.Calls.{create, mkdir, open_as, remove, rmdir, chmod, readdir, stat, call_bytes}
use Rattle.rules.specs.Skeleton.{at_front}
use Rattle.requests.specs.PathRequests.{has_number, path_request}

pub number-low : (kind : ℕ) → kind ≤ 3 → has_number kind ≡ true
unfolding has_number
number-low kind h = rw (le-leb kind 3 h)

pub number-high : (kind : ℕ) → 3 < kind → has_number kind ≡ eqb kind 11
unfolding has_number
number-high kind h = rw (lt-leb kind 3 h)

pub request_numbered : (kind number : ℕ) (s : List ℕ) → has_number kind ≡ true → path_request kind number s ≡ kind
    ∷ number ∷ s
unfolding path_request
request_numbered kind number s e = pick_true _ _ _ e

pub request_plain : (kind number : ℕ) (s : List ℕ) → has_number kind ≡ false → path_request kind number s ≡ kind ∷ s
unfolding path_request
request_plain kind number s e = pick-false _ _ _ e

-- bytes behind the first ones
pub behind-front : (x y l : List ℕ) (n : ℕ) → n ≡ length x → n ≤ length l → overwrite (overwrite l 0 x) n y ≡ at_front (x
    ++ y) l
behind-front x y l n e h = overwrite_next l 0 x y n (omega arith) (omega arith)

module _ (w n : ℕ) (p : Path) where
  pub create_request : call_bytes w (create n p) ≡ path_request 1 n (path_bytes p)
  unfolding call_bytes path_request has_number pick
  create_request = refl

  pub mkdir_request : call_bytes w (mkdir n p) ≡ path_request 2 n (path_bytes p)
  unfolding call_bytes path_request has_number pick
  mkdir_request = refl

  pub open_request : call_bytes w (open_as n p) ≡ path_request 3 n (path_bytes p)
  unfolding call_bytes path_request has_number pick
  open_request = refl

  pub chmod_request : call_bytes w (chmod n p) ≡ path_request 11 n (path_bytes p)
  unfolding call_bytes path_request has_number pick
  chmod_request = refl

  pub remove_request : call_bytes w (remove p) ≡ path_request 9 n (path_bytes p)
  unfolding call_bytes path_request has_number pick
  remove_request = refl

  pub rmdir_request : call_bytes w (rmdir p) ≡ path_request 10 n (path_bytes p)
  unfolding call_bytes path_request has_number pick
  rmdir_request = refl

  pub readdir_request : call_bytes w (readdir p) ≡ path_request 12 n (path_bytes p)
  unfolding call_bytes path_request has_number pick
  readdir_request = refl

  pub stat_request : call_bytes w (stat p) ≡ path_request 13 n (path_bytes p)
  unfolding call_bytes path_request has_number pick
  stat_request = refl
