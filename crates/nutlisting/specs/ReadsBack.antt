-- A listing of lawful items reads back, by the grammar of lines (RFC 9271: LIST).
use Rattle.std.specs.Prelude.{◌≡◌, ℕ, Bool, List, [], ◌∷◌, Some, codes, map, filter, All, IsTrue}
use Rattle.std.specs.Fmt.{signed_decimal}
use Rattle.nutwords.specs.Listing.{ReadsAsLines, listing_words}
use Rattle.nutwords.specs.Reading.{is_name, is_ups_name, is_address}
use Rattle.nutdriver.specs.declared.range.Range.{Range}
use Rattle.nutdriver.specs.Sound.{IsSoundTree, IsSoundVariable}
use Rattle.nutdriver.specs.Tree.{TreeState}
use Rattle.nutdriver.specs.Variable.{VariableState}
use Rattle.nutusers.specs.UpsList.{Ups, IsLawfulUps}
use Rattle.nutlisting.specs.Shown.{shown, ups_description}
use Rattle.nutlisting.specs.Items.{text_of, is_rw, command_item, client_item, ups_listing}
use Rattle.nutlisting.specs.Items.{variable_listing, rw_listing, command_listing, enum_listing}
use Rattle.nutlisting.specs.Items.{range_listing, client_listing}

-- The words of an item, as they are meant: of a variable, with the value as clients see it, of an
-- enum value, of a range and of a UPS. Those of a command and of a client are written as they are
-- meant.
abbrev pub variable_words : List ℕ → List ℕ → Bool → List ℕ × VariableState → List (List ℕ)
variable_words word ups fsd entry = word ∷ ups ∷ entry.0 ∷ shown fsd entry.0 entry.1 ∷ []

abbrev pub enum_words : List ℕ → List ℕ → List ℕ → List (List ℕ)
enum_words ups name value = codes "ENUM" ∷ ups ∷ name ∷ value ∷ []

abbrev pub range_words : List ℕ → List ℕ → Range → List (List ℕ)
range_words ups name range =
    codes "RANGE" ∷ ups ∷ name ∷ signed_decimal range.least ∷ signed_decimal range.greatest ∷ []

abbrev pub ups_words : Ups → List (List ℕ)
ups_words ups = codes "UPS" ∷ ups.name ∷ ups_description ups ∷ []

-- The text is whole lines, of which the first reads as BEGIN, LIST and what was asked for, the next
-- ones as the words of these items, in their order, and the last as END, LIST and what was asked
-- for. It reads as nothing else.
pub record ReadsBack (text : List ℕ) (asked : List (List ℕ)) (items : List (List (List ℕ)))
    : Type 0 where
  pub reads : ReadsAsLines text (listing_words asked items)
  pub only : (others : List (List (List ℕ))) → ReadsAsLines text others
      → others ≡ listing_words asked items

-- Of each kind: where the names that were asked for are lawful, and what is listed, the listing's
-- text is read back as its items.
pub record LawfulListingsReadBack : Type 0 where
  pub variables : (ups : List ℕ) (fsd : Bool) (tree : TreeState) → IsTrue (is_ups_name ups)
      → IsSoundTree tree
      → ReadsBack (text_of (variable_listing ups fsd tree.variables)) (codes "VAR" ∷ ups ∷ [])
      (map (variable_words (codes "VAR") ups fsd) tree.variables)
  pub rw : (ups : List ℕ) (fsd : Bool) (tree : TreeState) → IsTrue (is_ups_name ups)
      → IsSoundTree tree
      → ReadsBack (text_of (rw_listing ups fsd tree.variables)) (codes "RW" ∷ ups ∷ [])
      (map (variable_words (codes "RW") ups fsd) (filter is_rw tree.variables))
  pub commands : (ups : List ℕ) (tree : TreeState) → IsTrue (is_ups_name ups) → IsSoundTree tree
      → ReadsBack (text_of (command_listing ups tree.commands)) (codes "CMD" ∷ ups ∷ [])
      (map (command_item ups) tree.commands)
  pub enum_values : (ups name : List ℕ) (variable : VariableState) → IsTrue (is_ups_name ups)
      → IsTrue (is_name name) → IsSoundVariable variable
      → ReadsBack (text_of (enum_listing ups name (Some variable)))
      (codes "ENUM" ∷ ups ∷ name ∷ []) (map (enum_words ups name) variable.enum_values)
  pub ranges : (ups name : List ℕ) (variable : VariableState) → IsTrue (is_ups_name ups)
      → IsTrue (is_name name) → IsSoundVariable variable
      → ReadsBack (text_of (range_listing ups name (Some variable)))
      (codes "RANGE" ∷ ups ∷ name ∷ []) (map (range_words ups name) variable.ranges)
  pub upses : (upses : List Ups) → All IsLawfulUps upses
      → ReadsBack (text_of (ups_listing upses)) (codes "UPS" ∷ []) (map ups_words upses)
  pub clients : (ups : List ℕ) (addresses : List (List ℕ)) → IsTrue (is_ups_name ups)
      → All (λ address. IsTrue (is_address address)) addresses
      → ReadsBack (text_of (client_listing ups addresses)) (codes "CLIENT" ∷ ups ∷ [])
      (map (client_item ups) addresses)
