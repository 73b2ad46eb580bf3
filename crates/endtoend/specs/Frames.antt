-- A listing as it is written, and the reply as which it is read.
use Rattle.std.specs.Prelude.{◌≡◌, ◌≤◌, ℕ, Bool, true, false, List, [], ◌∷◌, ◌++◌, length, map, All}
use Rattle.std.specs.Prelude.{IsTrue, option_to_list}
use Rattle.nutwords.specs.Frame.{frame}
use Rattle.nutwords.specs.Listing.{IsWrittenListing}
use Rattle.nutrequest.specs.declared.item.Item.{Item}
use Rattle.nutrequest.specs.declared.limits.TheConstants.{ITEM_LIMIT}
use Rattle.nutrequest.specs.declared.request.Query.{Query}
use Rattle.nutrequest.specs.declared.request.Request.TheVariants.{List as ListOf}
use Rattle.nutrequest.specs.Request.{kind_of, ups_of, has_value, asked_words}
use Rattle.nutrequest.specs.Reply.{Whole, reply, is_item_name}

-- The value of an item, where it has one.
abbrev pub value_words : Bool → List ℕ → List (List ℕ)
value_words true value = value ∷ []
value_words false value = []

-- The words of an item: what was asked for, its name, and its value where it has one.
abbrev pub item_words : Query → Item → List (List ℕ)
item_words query item = asked_words query ++ item.name ∷ value_words (has_value query) item.value

-- An item that a client takes: its name is one of the listing's names, and it is seen without a
-- value where it has none.
pub record IsItem (query : Query) (item : Item) : Type 0 where
  pub name : IsTrue (is_item_name query item.name)
  pub value : has_value query ≡ false → item.value ≡ []

-- A listing of these items, written so that each line reads as its item's words, is read as them,
-- in their order. What comes after it isn't looked at.
abbrev pub AFrameIsReadAsItsItems : Type 0
AFrameIsReadAsItsItems =
    (query : Query) (written : List (List (List ℕ))) (items : List Item) (more : List ℕ)
    → IsWrittenListing (kind_of query) (option_to_list (ups_of query)) written (asked_words query)
    (map (item_words query) items)
    → All (IsItem query) items → length items ≤ ITEM_LIMIT
    → reply (ListOf query) (frame (kind_of query) (option_to_list (ups_of query)) written ++ more)
    ≡ Whole items more
