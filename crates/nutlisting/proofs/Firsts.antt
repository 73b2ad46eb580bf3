-- The first of the items that are left.
use Rattle.std.proofs.Common.{◌≡◌, ℕ, Bool, List, [], ◌∷◌, Option, Some, None, refl}
use Rattle.std.proofs.Common.{sym, ap, ◌∙◌, arith}
use Rattle.std.specs.Prelude.{map, filter, codes, MatchOption}
use Rattle.std.specs.Map.{keys_of}
use Rattle.std.specs.Ordering.{is_lt}
use Rattle.std.specs.declared.cmp.Ordering.{Ordering}
use Rattle.nutwords.specs.Frame.{line_of}
use Rattle.nutmap.specs.Entries.{entries_after, entry_after}
use Rattle.nutmap.specs.Marked.{marked_after}
use Rattle.nutdriver.specs.Tree.{TreeState, byte_order}
use Rattle.nutdriver.specs.Variable.{VariableState}
use Rattle.nutlisting.specs.declared.listing.Content.{Content}
use Rattle.nutlisting.specs.declared.listing.Content.TheVariants.{Commands, Rw}
use Rattle.nutlisting.specs.declared.listing.stage.Stage.TheVariants.{Names}
use Rattle.nutlisting.specs.Items.{command_item, variable_item, is_rw}
use Rattle.nutlisting.specs.Lines.{IsWholeLine}
use Rattle.nutlisting.specs.Stages.{IsFirst, items_past, names_after}

-- clients may set the variable
abbrev pub may_be_set : VariableState → Bool
may_be_set variable = variable.flags.rw

pub first_of : {E : Type 0} (item : E → List (List ℕ)) (all others : List E) (e : E)
    (line : List ℕ) → all ≡ e ∷ others → line ≡ line_of (item e) →
    IsWholeLine line → IsFirst (map item all) line (map item others)
first_of item all others e line s l w = record {
  first = ap (λ es. map line_of (map item es)) s ∙ ap (λ z. z ∷ map line_of (map item others)) (sym l);
  whole_line = w;
}

module _ {K V : Type 0} (cmp : K → K → Ordering) (es : List (K × V)) (key : Option K) where
  -- the entries after a key are the next one and those after it
  abbrev pub Walks : Type 0
  Walks = MatchOption (entry_after cmp es key) (entries_after cmp es key ≡ [])
      (λ next. entries_after cmp es key ≡ next ∷ entries_after cmp es (Some next.0))

  pub walks_on : (e : K × V) → Walks → entry_after cmp es key ≡ Some e →
      entries_after cmp es key ≡ e ∷ entries_after cmp es (Some e.0)
  walks_on e w h = rw h at w

-- the names after a name are the keys of the entries after it
keys_filtered : (p : List ℕ → Bool) (es : List (List ℕ × Unit {0})) →
    keys_of (filter (λ e. p e.0) es) ≡ filter p (keys_of es)
keys_filtered p [] = refl
keys_filtered p (e ∷ es) = grind (arith, keys_filtered p es)

pub names_of_entries : (es : List (List ℕ × Unit {0})) (last : Option (List ℕ)) →
    keys_of (entries_after byte_order es last) ≡ names_after (keys_of es) last
names_of_entries es None = refl
names_of_entries es (Some name) = keys_filtered (λ other. is_lt (byte_order name other)) es

-- the commands after a name, as the listing has them
module _ (content : Content) (ups : List ℕ) (tree : TreeState) (last : Option (List ℕ))
    (es : List (List ℕ × Unit {0})) (is : content ≡ Commands ups tree) (keys : keys_of es ≡ tree.commands) where
  commands_past : (name : Option (List ℕ)) → items_past content (Names, name) ≡
      map (command_item ups) (keys_of (entries_after byte_order es name))
  commands_past name = ap (λ (x : Content). items_past x (Names, name)) is ∙
      ap (λ names. map (command_item ups) (names_after names name)) (sym keys) ∙
      ap (map (command_item ups)) (sym (names_of_entries es name))

  pub no_command : entries_after byte_order es last ≡ [] → items_past content (Names, last) ≡ []
  no_command none = commands_past last ∙
      ap (λ (rest : List (List ℕ × Unit {0})). map (command_item ups) (keys_of rest)) none

  pub command_first : (line : List ℕ) (e : List ℕ × Unit {0}) → Walks byte_order es last →
      entry_after byte_order es last ≡ Some e
      → line ≡ line_of (command_item ups e.0) → IsWholeLine line
      → IsFirst (items_past content (Names, last)) line (items_past content (Names, Some e.0))
  command_first line e walks entry text whole =
      rw (commands_past last, commands_past (Some e.0))
      (first_of (command_item ups) _ _ e.0 line (ap keys_of (walks_on byte_order es last e walks entry)) text whole)

-- the variables that clients may set, after a name, as the listing has them
pub rw_first : (content : Content) (ups : List ℕ) (fsd : Bool) (tree : TreeState)
    (last : Option (List ℕ)) (line : List ℕ) (e : List ℕ × VariableState) → content ≡ Rw ups fsd tree
    → MatchOption (marked_after may_be_set byte_order tree.variables last)
    (filter is_rw (entries_after byte_order tree.variables last) ≡ [])
    (λ next. filter is_rw (entries_after byte_order tree.variables last) ≡ next ∷
    filter is_rw (entries_after byte_order tree.variables (Some next.0)))
    → marked_after may_be_set byte_order tree.variables last ≡ Some e
    → line ≡ line_of (variable_item (codes "RW") ups fsd e) → IsWholeLine line
    → IsFirst (items_past content (Names, last)) line (items_past content (Names, Some e.0))
rw_first content ups fsd tree last line e is walks entry text whole =
    rw is (first_of (variable_item (codes "RW") ups fsd) _ _ e line (rw entry at walks) text whole)
