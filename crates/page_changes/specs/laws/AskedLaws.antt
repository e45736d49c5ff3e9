-- Laws of specs/Asked.antt.
-- Assumes nothing.
use Rattle.std.specs.Prelude.{◌≡◌, refl, List, [], ◌∷◌, ◌++◌, ℕ, ◌≤◌, length}
use Rattle.std.proofs.Common.{ap, sym, ◌∙◌, arith, length-append}
use Rattle.lists.specs.LittleEndian.{encode, length-encode}
use Rattle.lists.specs.Parts.{part, overwrite}
use Rattle.lists.specs.PartLaws.{length_overwrite}
use Rattle.filesystem.specs.Tables.{PAGE_BYTES, node_at, open_at}
use Rattle.tables.specs.laws.ChangeLaws.{over_all}
use Rattle.rules.specs.Pages.{Change, fill, size_sent}
use Rattle.rules.specs.Requests.{storing, fetch_request, store_request, store_length}
use Rattle.rules.proofs.Lengths.{store_length_lem, page_long}
use Rattle.rules.specs.Skeleton.{Config, at_front}
use Rattle.requests.specs.laws.Heads.{behind_store}
use Rattle.machine.specs.Machine.{State, asking, ask_store, guard as digest_store}
use Rattle.guard_state.specs.State.{state_of}
use Rattle.guard_state.specs.Waits.{waits}
use Rattle.outcomes.specs.declared.Outcome.{Outcome}
use Rattle.outcomes.specs.declared.Outcome.TheVariants.{Ask}
use Rattle.outcomes.specs.Sent.{Sends}
use Rattle.outcomes.specs.laws.SentLaws.{asking_sends}
use Rattle.page_changes.specs.Asked.{store_front}

-- the page of a store that stands at the front of a buffer
pub stored_part : (d i z : ℕ) (p l : List ℕ) → length p ≡ PAGE_BYTES → store_length ≤ length l
    → part store_front PAGE_BYTES (at_front (store_request d i z p) l) ≡ p
unfolding store_length
stored_part d i z p l e h =
    let front : List ℕ = 7 ∷ (encode 4 d ++ (encode 4 i ++ encode 4 z)) in
    let n : length front ≡ 13 = omega (
      arith,
      length-append (encode 4 d) (encode 4 i ++ encode 4 z),
      length-append
          (encode 4 i) (encode 4 z),
      length-encode 4 d,
      length-encode 4 i,
      length-encode 4 z,
    ) in
    let m : length (overwrite l 0 front) ≡ length l = length_overwrite l 0 front (omega arith) in
    ap (part 13 PAGE_BYTES) (sym (behind_store l (overwrite l 0 front) (overwrite (overwrite l 0 front) 13 p) d i z p
    refl refl))
    ∙ ap (λ (k : ℕ). part 13 k (overwrite (overwrite l 0 front) 13 p)) (sym e)
    ∙ over_all (overwrite l 0 front) 13 p 0 (omega arith)

-- a fetch fits the request buffer
pub fetch_most : (d i : ℕ) → length (fetch_request d i) ≤ store_length
unfolding fetch_request store_length encode
fetch_most d i = omega arith

-- page i goes out, from the page r that was fetched or none
pub store_sends : (c : Config) (s : State (digest_store c)) (k o : ℕ) (q : Change) (i : ℕ) (r : List ℕ) (d z : ℕ)
    (m b b' : List ℕ) (x : Outcome)
    → d ≡ (open_at s.skeleton.tables.opens o).descriptor
    → z ≡ size_sent q (node_at s.skeleton.tables.nodes k).size i → s.progress.bytes ≡ []
    → b' ≡ at_front (store_request d i z (fill q i r)) b → store_length ≤ length b → x ≡ Ask store_length
    → state_of c m ≡ waits c s (storing k o q i) (record {
      bytes = [];
      digests = s.progress.digests
          ++ (c.digest (part store_front PAGE_BYTES b') ∷ []);
    })
    → Sends c (ask_store c (digest_store c) s k o q i r) x m b b'
unfolding ask_store
store_sends c s k o q i r d z m b b' x u v w y h e g =
    let n = store_length_lem d i z (fill q i r) (page_long q i r) in
    let p : part store_front PAGE_BYTES b' ≡ fill q i r = ap (part store_front PAGE_BYTES) y
    ∙ stored_part d i z (fill q i r) b (page_long q i r) h in
    asking_sends c s _ (storing k o q i) (store_request d i z (fill q i r))
    (record { bytes = []; digests = s.progress.digests ++ (c.digest (fill q i r) ∷ []) }) m b b' x
    (λ t. asking c (digest_store c) s (store_request (sym u t) i (sym v t) (fill q i r)) (storing k o q i)
    (record { bytes = w t; digests = s.progress.digests ++ (c.digest (fill q i r) ∷ []) }))
    (g ∙ ap (λ (l : List ℕ). waits c s (storing k o q i) (record {
      bytes = [];
      digests = s.progress.digests
          ++ (c.digest l ∷ []);
    })) p)
    y (e ∙ ap Ask (sym n)) (omega arith)
