-- Lines one after another.
use Rattle.std.proofs.Common.{◌≡◌, ℕ, suc, List, []}
use Rattle.std.proofs.Common.{◌∷◌, ◌++◌, drop}
use Rattle.std.proofs.Common.{Option, Some, refl, subst}
use Rattle.nutjournal.specs.declared.log_buffer.LogBuffer.{LogBuffer}
use Rattle.nutjournal.specs.declared.tallies.Tallies.{Tallies}
use Rattle.nutjournal.specs.Lines.{DuesMore, Line, after_due, after_dues}
use Rattle.nutjournal.specs.LogBuffer.{CountsDropped, IsFlushed, OneLineMore, Place, PlaceMore, PlacesMore, SomeMore}
use Rattle.nutusers.specs.UpsList.{Ups}

pub then_more : (xs ys : List Place) (a b c : LogBuffer) → PlacesMore xs a b → PlacesMore ys b c →
    PlacesMore (xs ++ ys) a c
then_more [] ys a b c first later = subst (λ log. PlacesMore ys log c) first later
then_more (x ∷ xs) ys a b c (next, one, rest) later = (next, one, then_more xs ys next b c rest later)

pub none_more : (a b : LogBuffer) → b ≡ a → SomeMore a b
none_more a b same = record { places = []; are = same }

pub then_some : (a b c : LogBuffer) → SomeMore a b → SomeMore b c → SomeMore a c
then_some a b c first later =
    record {
      places = first.places ++ later.places;
      are =
          then_more first.places later.places a b c first.are later.are;
    }

pub one_more : (due : Option ℕ) (ups : Option (List ℕ)) (a b : LogBuffer) → PlaceMore due ups a b → SomeMore a b
one_more due ups a b h = record { places = record { due = due; ups = ups } ∷ []; are = (b, h, refl) }

pub line_more : (priority : ℕ) (ups : Option (List ℕ)) (a b : LogBuffer) →
    OneLineMore priority ups a b → SomeMore a b
line_more priority ups a b h = one_more (Some priority) ups a b h

pub three_more : (d e f : Option ℕ) (u v w : Option (List ℕ)) (a b c z : LogBuffer)
    → PlaceMore d u a b → PlaceMore e v b c → PlaceMore f w c z → SomeMore a z
three_more d e f u v w a b c z one two three =
    then_some a b z (one_more d u a b one) (then_some b c z (one_more e v b c two) (one_more f w c z three))

pub dues_then : (list : List Ups) (xs ys : List (Option Line)) (all : Tallies) (a b c : LogBuffer)
    → DuesMore list xs all a b → DuesMore list ys (after_dues xs all) b c → DuesMore list (xs ++ ys) all a c
dues_then list [] ys all a b c first later = subst (λ log. DuesMore list ys all log c) first later
dues_then list (x ∷ xs) ys all a b c (next, one, rest) later =
    (next, one, dues_then list xs ys (after_due x all) next b c rest later)

pub after_both : (xs ys : List (Option Line)) (all : Tallies)
    → after_dues (xs ++ ys) all ≡ after_dues ys (after_dues xs all)
after_both [] ys all = refl
after_both (x ∷ xs) ys all = after_both xs ys (after_due x all)

-- What waits is written as far as it is taken, once more.
pub flushed : (a b c d : LogBuffer) (n : ℕ) → IsFlushed a b → CountsDropped b c
    → d ≡ record c { waiting = drop n c.waiting; terminal = d.terminal } → IsFlushed a d
flushed a b c d n before counts is = record {
  times = suc before.times;
  are = (b, before.are, record { counted = c; counts = counts; taken = n; is = is });
}

pub only_counted : (a b c : LogBuffer) → IsFlushed a b → CountsDropped b c → IsFlushed a c
only_counted a b c before counts = flushed a b c c 0 before counts refl
