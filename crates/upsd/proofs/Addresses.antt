-- The addresses that texts write, read place by place.
use Rattle.std.proofs.Common.{◌≡◌, ◌≢◌, ◌∙◌, ◌<◌, ◌+◌, ℕ, Bool, true}
use Rattle.std.proofs.Common.{false, List, Some, length, slice_get, ap, arith, refl, subst, sym}
use Rattle.std.specs.Prelude.{nat_lt, slice_set}
use Rattle.std.specs.Net.Grammar.{IsSocketText}
use Rattle.std.specs.declared.net.socket_addr.SocketAddr.{SocketAddr}
use Rattle.std.proofs.lemmas.Bool.Decides.{nat_tests}
use Rattle.std.proofs.lemmas.List.{get_or-set_same, get_or-set_other, length-set}
use Rattle.std.proofs.lemmas.Option.{slice_get-get_or, get_or_from_slice_get}
use Rattle.upsd.specs.declared.task.Addresses.{Addresses}
use Rattle.upsd.specs.Task.{AreAddresses, text_at}

-- A text that writes no address refuses all.
pub refuses : (texts : List (List ℕ)) (place : ℕ) → place < length texts →
    ((address : SocketAddr) → ¬ (IsSocketText (text_at texts place) address)) →
    (addresses : Addresses) → ¬ (AreAddresses texts addresses)
refuses texts place below none addresses are =
    let read = are.each place (subst (λ n. place < n) are.count below) in none read.0 read.2

-- One more is read.
pub one_more : (P : ℕ → SocketAddr → Type 0) (list : List SocketAddr) (place : ℕ) (address : SocketAddr)
    → length list ≡ 8 → place < 8 → P place address
    → ((k : ℕ) → k < place → (x : SocketAddr) × (slice_get list k ≡ Some x) × P k x)
    → (length (slice_set list place address) ≡ 8)
    × ((k : ℕ) → k < place + 1 → (x : SocketAddr) ×
    (slice_get (slice_set list place address) k ≡ Some x) × P k x)
one_more P list place address size below here before =
    (length-set list place address ∙ size, λ k under. at k under (nat_lt k place) refl) where
      within : (k : ℕ) → k < 8 → k < length (slice_set list place address)
      within k under = subst (λ n. k < n) (sym (length-set list place address ∙ size)) under

      at : (k : ℕ) → k < place + 1 → (t : Bool) → nat_lt k place ≡ t
          → (x : SocketAddr) × (slice_get (slice_set list place address) k ≡ Some x) × P k x
      at k under true is =
          let lower : k < place = grind (arith, nat_tests) in
          let old = before k lower in
          let other : k ≢ place = grind arith in (
            old.0,
            slice_get-get_or (slice_set list place address) k old.0 (within k (omega (arith, lower, below)))
                ∙ ap (λ x. Some x) (get_or-set_other list place k address old.0 other ∙
                get_or_from_slice_get list k old.0 old.0 old.1),
            old.2,
          )
      at k under false is =
          let same : place ≡ k = grind (arith, nat_tests) in
          subst (λ n. (x : SocketAddr) × (slice_get (slice_set list place address) n ≡ Some x) × P n x) same (
            address,
            slice_get-get_or (slice_set list place address) place address (within place below)
                ∙ ap (λ x. Some x) (get_or-set_same list place address address
                (subst (λ n. place < n) (sym size) below)),
            here,
          )
