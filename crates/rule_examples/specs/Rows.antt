-- Rows: events, what is expected of each, and the tables between them.
use Rattle.std.specs.Prelude.{List, [], ◌∷◌, ◌++◌, ℕ, suc, ◌+◌}
use Prim.Native.String.{String}
use Rattle.filesystem.specs.Tables.{OpenFile}
use Rattle.filesystem.specs.MemoryMaps.{Map}
use Rattle.rules.specs.Skeleton.{Event, call, reply, save, load}
use Rattle.rule_examples.specs.Bytes.{four}
use Rattle.rule_examples.specs.Given.{Item, Given}

-- What is expected: done with a number and bytes; a save's image with its digest; a request of these bytes; one that begins so; one of 1,037 bytes
-- that has these bytes at these places, in rising order; a refusal; a stop.
pub data Expect : Type 0 where
  is_done : (number : ℕ) (bytes : List ℕ) → Expect
  is_saved : (image : List ℕ) → Expect
  asks begins : (bytes : List ℕ) → Expect
  carries : (places : List (ℕ × ℕ)) → Expect
  is_refused is_stopped : (number : ℕ) → Expect

abbrev pub closes : (descriptor : ℕ) → Expect
closes d = asks (4 ∷ four d)

abbrev pub fetches : (descriptor page : ℕ) → Expect
fetches d i = asks (6 ∷ (four d ++ four i))

-- a store; of its page some bytes, or none, are looked at: to compare all 1,024 takes seconds
abbrev pub stores : (descriptor page size : ℕ) → Expect
stores d i s = begins (7 ∷ (four d ++ (four i ++ four s)))

-- one whose page begins so
abbrev pub stores_front : (descriptor page size : ℕ) → List ℕ → Expect
stores_front d i s b = begins (7 ∷ (four d ++ (four i ++ (four s ++ b))))

unfoldable pub placed : ℕ → List ℕ → List (ℕ × ℕ)
placed i [] = []
placed i (b ∷ s) = (i, b) ∷ placed (suc i) s

abbrev pub stores_page : (descriptor page size : ℕ) → List (ℕ × ℕ) → Expect
stores_page d i s ps = carries (placed 0 (7 ∷ (four d ++ (four i ++ four s))) ++ ps)

-- in the page's place i the byte b
abbrev pub has : (i b : ℕ) → ℕ × ℕ
has i b = (13 + i, b)

abbrev pub cuts_to : (descriptor size : ℕ) → Expect
cuts_to d s = asks (8 ∷ (four d ++ four s))

-- A line: an event and what it comes to; or the nodes in order with what is in them, and the open files, as they now are; or the maps.
pub data Line : Type 0 where
  ◌⇒◌ : Event → Expect → Line
  holds : List Item → List OpenFile → Line
  lives : List Map → Line

infix 70 ◌⇒◌
infixr 66 ◌then◌
-- lines one after another
abbrev pub ◌then◌ : Line → List Line → List Line
◌then◌ l ls = l ∷ ls

abbrev pub end : List Line
end = []

unfoldable pub its_bytes : Event → List ℕ
its_bytes (call s _ _) = s
its_bytes (reply s _ _) = s
its_bytes (save n) = []
its_bytes (load v i d) = i

-- a request that is the call itself (SPECIFICATION 5.2)
abbrev pub sends_itself : Event → Line
sends_itself e = e ⇒ asks (its_bytes e)

-- a row: its title, what it begins with, its lines
pub record Row : Type 0 where
  pub title : String
  pub start : Given
  pub lines : List Line

abbrev pub row : String → Given → List Line → Row
row t w ls = record { title = t; start = w; lines = ls }

-- a row of one event; one whose call is sent itself
abbrev pub one : String → Given → Event → Expect → Row
one t w e x = row t w (e ⇒ x then end)

abbrev pub passes : String → Given → Event → Row
passes t w e = row t w (sends_itself e then end)
