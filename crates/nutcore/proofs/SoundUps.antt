-- Sound UPSs, and what keeps them so.
use Rattle.std.proofs.Common.{◌≡◌, ◌≤◌, ℕ, zero, suc, Bool, true, false, List, []}
use Rattle.std.proofs.Common.{◌∷◌, ◌++◌, Option, Some, None, refl, ap, subst, map, length}
use Rattle.std.proofs.Common.{replicate, drop, length-append, length-drop, arith}
use Rattle.std.proofs.Math.Seq.{drop-nil}
use Rattle.std.proofs.lemmas.Bool.{leb-false}
use Rattle.nutwords.specs.declared.limits.TheConstants.{LINE_LIMIT, LINE_ROOM}
use Rattle.std.specs.Prelude.{slice_get}
use Rattle.nutdriver.specs.declared.report.Report.{Report}
use Rattle.nutdriver.specs.declared.report.LineOutcome.{LineOutcome}
use Rattle.nutdriver.specs.Tree.{empty_tree}
use Rattle.nutdriver.specs.Report.{after_line as report_after_line, end_in}
use Rattle.nutdriver.specs.Sound.{IsSoundTree, EachLineKeepsTheTreeSound}
use Rattle.nutcore.proofs.Common.{never_both, cond_both, cond-false, TrackingState, Change, changed_at}
use Rattle.nutcore.specs.declared.TheConstants.{DRIVER_OWED_LIMIT}
use Rattle.nutwords.specs.Lines.{Tail, Unfinished, IsCutInto, line as one_line, unfinished, overlong}
use Rattle.nutwords.specs.SplitLine.{split_line}
use Rattle.nutwords.specs.WholeLines.{whole_lines, unfinished_after, is_too_long, tail_after}
use Rattle.nutwords.proofs.PublicLaws.{whole_lines_are_the_cut}
use Rattle.nutcore.specs.Reports.{with_end, is_unawaited}
use Rattle.nutcore.specs.Ups.{UpsState, after_connecting, after_loss, after_tick, after_outcome}
use Rattle.nutcore.specs.Ups.{after_text, after_texts, with_unfinished, ups_after_bytes}
use Rattle.nutcore.specs.Reply.{changed_upses}
use Rattle.nutcore.specs.Promises.{OrderFits}
use Rattle.nutcore.proofs.Changes.{of_upses}
use Rattle.nutcore.specs.DriverEvents.{driver_may_take, after_driver_took}
use Rattle.nutcore.specs.Sound.{Each, IsSoundUps}

-- lists
module _ {A : Type 0} (P : A → Type 0) where
  pub each_map : {B : Type 0} (Q : B → Type 0) (f : A → B) → ((x : A) → P x → Q (f x)) →
      (xs : List A) → Each P xs → Each Q (map f xs)
  each_map Q f h [] all = tt
  each_map Q f h (x ∷ xs) all = (h x all.0, each_map Q f h xs all.1)

  pub each_get : (xs : List A) (p : ℕ) (x : A) → slice_get xs p ≡ Some x → Each P xs → P x
  each_get [] p x e all = cc e
  each_get (y ∷ xs) zero x e all = let same : y ≡ x = cc e in subst P same all.0
  each_get (y ∷ xs) (suc p) x e all = each_get xs p x e all.1

  pub each_join : (xs ys : List A) → Each P xs → Each P ys → Each P (xs ++ ys)
  each_join [] ys all more = more
  each_join (x ∷ xs) ys all more = (all.0, each_join xs ys all.1 more)

  pub each_last : (y : A) → P y → (xs : List A) → Each P xs → Each P (xs ++ y ∷ [])
  each_last y p xs all = each_join xs (y ∷ []) all (p, tt)

  pub each_same : (y : A) → P y → (n : ℕ) → Each P (replicate n y)
  each_same y p zero = tt
  each_same y p (suc n) = (p, each_same y p n)

pub length-changed : (f : UpsState → UpsState) (p : ℕ) (xs : List UpsState) →
    length (changed_at f p xs) ≡ length xs
length-changed f p [] = refl
length-changed f zero (x ∷ xs) = refl
length-changed f (suc p) (x ∷ xs) = ap suc (length-changed f p xs)

pub each_changed : (P : UpsState → Type 0) (f : UpsState → UpsState) (p : ℕ)
    (xs : List UpsState) → ((x : UpsState) → slice_get xs p ≡ Some x → P x → P (f x)) →
    Each P xs → Each P (changed_at f p xs)
each_changed P f p [] h all = tt
each_changed P f zero (x ∷ xs) h all = (h x refl all.0, all.1)
each_changed P f (suc p) (x ∷ xs) h all = (all.0, each_changed P f p xs h all.1)

-- what of a report no line changes but its moment: when it was heard, and whether the driver is
-- connected
abbrev pub heard_of : Report → ℕ × Bool
heard_of report = (report.heard, report.connected)

pub heard_line : (moment : ℕ) (report : Report) (line : List ℕ) →
    heard_of (report_after_line moment report line).0 ≡ (moment, report.connected)
heard_line moment report line = grind arith

-- a UPS whose driver is connected
pub record IsSoundConnected (m : ℕ) (x : UpsState) : Type 0 where
  pub is : IsSoundUps m x
  pub connected : x.report.connected ≡ true

sound_there : (m : ℕ) (x : UpsState) → IsSoundTree x.report.tree → x.report.heard ≤ m →
    x.pinged ≤ m → length x.owed ≤ DRIVER_OWED_LIMIT → length x.unfinished ≤
    LINE_LIMIT → split_line x.unfinished ≡ None → x.report.connected ≡ true → IsSoundConnected m x
sound_there m x tree heard pinged owed short no_lf is =
    record {
      is = record {
        tree = tree;
        heard = heard;
        pinged = pinged;
        owed = owed;
        unfinished = short;
        one_line = no_lf;
        lost = λ e. never_both x.report.connected is e;
      };
      connected = is;
    }

pub sound_bytes : (m : ℕ) (bytes : List ℕ) (x : UpsState) → length bytes ≤ LINE_LIMIT →
    split_line bytes ≡ None → IsSoundConnected m x → IsSoundConnected m (record x { unfinished = bytes })
sound_bytes m bytes x short no_lf h = sound_there m _ h.is.tree h.is.heard h.is.pinged h.is.owed short no_lf h.connected

sound_counted : (m : ℕ) (unawaited : Bool) (x : UpsState) (r : Report × LineOutcome) →
    (let y : UpsState = record x { report = r.0 } in IsSoundConnected m y) →
    IsSoundConnected m (after_outcome unawaited x r)
sound_counted m unawaited x r h = grind arith

-- bytes are taken from what is owed
pub sound_fewer : (m n : ℕ) (x : UpsState) → IsSoundUps m x → IsSoundUps m (record x { owed = drop n x.owed })
sound_fewer m n x h = grind (arith, length-drop {A = ℕ}, drop-nil {A = ℕ})

pub sound_took : (m n : ℕ) (x : UpsState) → IsSoundUps m x → IsSoundUps m (after_driver_took n x)
sound_took m n x h = cond_both (driver_may_take n x) _ x (IsSoundUps m) (λ e. sound_fewer m n x h) (λ e. h)

pub sound_tick : (ma m now : ℕ) (x : UpsState) → m ≤ now → IsSoundUps m x →
    IsSoundUps now (after_tick ma now x)
sound_tick ma m now x later h = grind (arith, length-append {A = ℕ})

pub sound_changes : (m : ℕ) (change : Change) (xs : List UpsState) → OrderFits change xs →
    Each (IsSoundUps m) xs → Each (IsSoundUps m) (changed_upses change xs)
sound_changes m change xs fits all =
    of_upses (λ told ys. Each (IsSoundUps m) ys) change xs all
    (λ v f told does. each_changed (IsSoundUps m) f v.place xs
    (λ x at. does.sound m x (λ line id is. fits v line id x is at)) all)

pub length-changes : (change : Change) (xs : List UpsState) → length (changed_upses change xs) ≡ length xs
length-changes change xs = of_upses (λ told ys. length ys ≡ length xs) change xs refl
    (λ v f told does. length-changed f v.place xs)

-- what is unfinished of a text has no LF
rest_alone : (text : List ℕ) (lines : List (List ℕ)) (tail : Tail) →
    IsCutInto text lines tail → tail ≡ Unfinished (unfinished_after text) →
    split_line (unfinished_after text) ≡ None
rest_alone text lines tail cut is = of_tail text lines tail cut (unfinished_after text) is
  where
    of_tail : (text : List ℕ) (lines : List (List ℕ)) (tail : Tail) →
        IsCutInto text lines tail → (rest : List ℕ) → tail ≡ Unfinished rest → split_line rest ≡ None
    of_tail text _ tail (one_line {rest = after} {first = first} {lines = lines} split few more)
        rest is = of_tail after lines tail more rest is
    of_tail text _ _ (unfinished none few) rest is = let same : text ≡ rest = cc is in
        subst (λ (bytes : List ℕ). split_line bytes ≡ None) same none
    of_tail text _ _ (overlong none many) rest is = cc is

module _ (empty : IsSoundTree empty_tree) (line_keeps : EachLineKeepsTheTreeSound) where
  pub sound_loss : (m : ℕ) (x : UpsState) → IsSoundUps m (after_loss x)
  sound_loss m x = record {
    tree = empty;
    heard = omega arith;
    pinged = omega arith;
    owed = omega arith;
    unfinished = omega arith;
    one_line = refl;
    lost = λ e. refl;
  }

  pub sound_connecting : (m : ℕ) (x : UpsState) → IsSoundUps m (after_connecting m x)
  sound_connecting m x = record {
    tree = empty;
    heard = omega arith;
    pinged = omega arith;
    owed = omega arith;
    unfinished = omega arith;
    one_line = refl;
    lost = λ e. cc e;
  }

  pub sound_report : (m : ℕ) (x : UpsState) (line : List ℕ) → IsSoundConnected m x →
      (let y : UpsState = record x { report = (report_after_line m x.report line).0 } in IsSoundConnected m y)
  sound_report m x line h = grind (arith, line_keeps m x.report line h.is.tree, heard_line m x.report line)

  sound_text : (m : ℕ) (unawaited : Bool) (x : UpsState) (line : List ℕ) →
      IsSoundConnected m x → IsSoundConnected m (after_text m unawaited x line)
  sound_text m unawaited x line h =
      sound_counted m unawaited x (report_after_line m x.report line) (sound_report m x line h)

  -- whole lines of a connected driver
  sound_texts : (lines : List (List ℕ)) (m place : ℕ) (t : TrackingState) (x : UpsState) →
      IsSoundConnected m x → IsSoundConnected m (after_texts m place t lines x)
  sound_texts [] m place t x h = h
  sound_texts (line ∷ lines) m place t x h =
      let b : Bool = is_unawaited place (end_in line) t in
      sound_texts lines m place (with_end place (end_in line) t) (after_text m b x line) (sound_text m b x line h)

  pub sound_connected_text : (m place : ℕ) (t : TrackingState) (text : List ℕ) (x : UpsState)
      → is_too_long (unfinished_after text) ≡ false → x.report.connected ≡ true →
      IsSoundUps m x → IsSoundUps m
      (with_unfinished (unfinished_after text) (after_texts m place t (whole_lines text) x))
  sound_connected_text m place t text x short e h =
      (sound_bytes m (unfinished_after text) (after_texts m place t (whole_lines text) x)
      (let fits = leb-false LINE_ROOM (length (unfinished_after text)) short in omega (arith, fits))
      (rest_alone text (whole_lines text) (tail_after text) (whole_lines_are_the_cut text)
      (cond-false _ _ _ short)) (sound_texts (whole_lines text) m place t x (record { is = h; connected = e }))).is

  pub sound_driver_bytes : (m place : ℕ) (t : TrackingState) (piece : List ℕ)
      (refused : Option ℕ) (x : UpsState) → IsSoundUps m x →
      IsSoundUps m (ups_after_bytes m place t piece refused x)
  sound_driver_bytes m place t piece refused x h =
      grind (arith, sound_loss, sound_connected_text m place t (x.unfinished ++ piece) x)
