-- Trees that wait to be taken apart.
use Rattle.std.specs.Prelude.{◌≡◌, ℕ, ◌+◌, ◌≤◌, nat_le, List, [], ◌∷◌, length, vec_capacity}
use Rattle.std.specs.Prelude.{if◌then◌else◌}
use Rattle.std.specs.List.{sum_by}
use Rattle.std.specs.declared.rc.Rc.{Rc}
use Rattle.std.specs.declared.vec.Vec.{Vec}
use Rattle.nutmap.specs.Tree.{greatest_height}
use Rattle.nutmap.specs.declared.waste.TheConstants.{WASTE_LIMIT}

-- How many trees wait, and how many nodes they have.
pub record Waiting : Type 0 where
  pub trees : ℕ
  pub nodes : ℕ

abbrev pub nothing : Waiting
nothing = record { trees = 0; nodes = 0 }

-- One more tree of so many nodes waits, where there is room for one of the greatest height.
pub record IsWithTree (count : ℕ) (old new : Waiting) : Type 0 where
  pub nodes : new.nodes ≡ (if nat_le (old.trees + greatest_height) WASTE_LIMIT
      then old.nodes + count else old.nodes)
  pub trees : new.trees ≤ old.trees + 1

module _ {K V A : Type 0} where
  -- the nodes of the trees
  abbrev pub nodes_in : List (Rc (List (K × V) × ℕ) A) → ℕ
  nodes_in trees = sum_by (λ tree. length tree.value.0) trees

  -- Each tree has room above it for a part on each of its levels. So many trees are below these.
  abbrev pub HaveRoom : ℕ → List (Rc (List (K × V) × ℕ) A) → Type 0
  HaveRoom below [] = Unit {0}
  HaveRoom below (tree ∷ trees) =
      (below + tree.value.1 ≤ WASTE_LIMIT) × HaveRoom (below + 1) trees

  -- The trees, the last of which is taken apart first, and whatever is added take no more memory.
  pub record AreKept {B : Type 0} (trees : Vec (Rc (List (K × V) × ℕ) A) B) : Type 0 where
    pub room : HaveRoom 0 trees.items
    pub capacity : WASTE_LIMIT ≤ vec_capacity trees
