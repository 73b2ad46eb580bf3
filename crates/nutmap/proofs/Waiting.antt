-- The room of the trees that wait.
use Rattle.std.proofs.Common.{ℕ, suc, ◌+◌, ◌≤◌, List, [], ◌∷◌, ◌++◌, arith, length}
use Rattle.std.specs.declared.rc.Rc.{Rc}
use Rattle.nutmap.specs.Waste.{HaveRoom}
use Rattle.nutmap.specs.declared.waste.TheConstants.{WASTE_LIMIT}

module _ {K V A : Type 0} where
  -- one more tree
  pub room_pushed : (below : ℕ) (trees : List (Rc (List (K × V) × ℕ) A)) (tree : Rc (List (K × V) × ℕ) A) →
      HaveRoom below trees → below + length trees + tree.value.1 ≤ WASTE_LIMIT →
      HaveRoom below (trees ++ tree ∷ [])
  room_pushed below [] tree room fits =
      (let high : below + tree.value.1 ≤ WASTE_LIMIT = omega (arith, fits) in high, tt)
  room_pushed below (t ∷ trees) tree room fits =
      (room.0, room_pushed (below + 1) trees tree room.1 (omega (arith, fits)))

  -- one less
  pub room_popped : (below : ℕ) (trees : List (Rc (List (K × V) × ℕ) A)) (tree : Rc (List (K × V) × ℕ) A) →
      HaveRoom below (trees ++ tree ∷ []) →
      HaveRoom below trees × (below + length trees + tree.value.1 ≤ WASTE_LIMIT)
  room_popped below [] tree room =
      (tt, let high : below + 0 + tree.value.1 ≤ WASTE_LIMIT = omega (arith, room.0) in high)
  room_popped below (t ∷ trees) tree room =
      let rest = room_popped (below + 1) trees tree room.1 in (
        (room.0, rest.0),
        let high : below + suc (length trees) + tree.value.1 ≤ WASTE_LIMIT =
            omega (arith, rest.1) in high,
      )
