-- What an event does to a UPS: what its driver reported, what is owed, whether the driver stays,
-- and the count; and what bytes do.
use Rattle.std.proofs.Common.{◌≡◌, ◌≤◌, ◌∙◌, ◌+◌, ℕ, Bool, true, false}
use Rattle.std.proofs.Common.{◌&&◌, not, List, [], ◌∷◌, ◌++◌, Option, Some, None}
use Rattle.std.proofs.Common.{refl, sym, ap, cond, min, take, drop, append_assoc, append-nil, arith}
use Rattle.nutcore.proofs.Common.{never_both, and_from, flat_map-append, take-append-drop, UpsId, TrackingState, Event}
use Rattle.nutdriver.specs.declared.report.Report.{Report}
use Rattle.nutdriver.specs.declared.report.LineOutcome.{LineOutcome}
use Rattle.nutdriver.specs.Report.{after_line, end_in}
use Rattle.nutcore.specs.declared.event.Event.TheVariants.{DriverUp}
use Rattle.nutwords.specs.SplitLine.{with_lf}
use Rattle.nutwords.specs.Lines.{Tail, IsCutInto, line as one_line, unfinished, overlong}
use Rattle.nutwords.specs.WholeLines.{joined, whole_lines, unfinished_after, is_too_long, tail_after}
use Rattle.nutwords.proofs.PublicLaws.{first_line_is_cut_off, no_line_without_lf}
use Rattle.nutwords.proofs.PublicLaws.{whole_lines_are_the_cut, whole_lines_and_the_rest_are_all}
use Rattle.nutcore.specs.Reports.{with_end, is_unawaited}
use Rattle.nutcore.specs.Ups.{UpsState, after_connecting, after_loss, greatest_count, after_outcome}
use Rattle.nutcore.specs.Ups.{after_text, after_texts, with_unfinished, as_far, ups_after_text}
use Rattle.nutcore.specs.Ups.{ups_after_bytes}
use Rattle.nutcore.specs.Headline.{IsBeginning}
use Rattle.nutcore.specs.Sound.{Each}
use Rattle.nutcore.specs.DriverHistory.{Heard, heard_at, bytes_heard, after_heard, refusals}
use Rattle.nutcore.specs.DriverHistory.{IsWholeLine, CountsRefused, IsHeard}
use Rattle.nutcore.specs.DriverOrders.{ServerLine, texts_of}

-- counts: what one is at most, and one after two lists of lines
pub count_is_few : (a b most : ℕ) → b ≡ min a most → b ≤ most
count_is_few a b most e = omega arith

pub both_counts : (a b c p q most : ℕ) → b ≡ min (a + p) most → c ≡ min (b + q) most →
    c ≡ min (a + (p + q)) most
both_counts a b c p q most first more = omega arith

-- what a line of its driver leaves of a UPS
pub record LineLeaves (unawaited : Bool) (x : UpsState) (r : Report × LineOutcome) (y : UpsState) : Type 0 where
  pub report : y.report ≡ r.0
  pub pinged : y.pinged ≡ x.pinged
  pub owed : y.owed ≡ x.owed
  pub unfinished : y.unfinished ≡ x.unfinished
  pub counted : x.faulty ≤ greatest_count → y.faulty ≡ min (x.faulty + refusals unawaited r.1) greatest_count
  -- what is unfinished changes nothing of it
  pub beside : (bytes : List ℕ) → with_unfinished bytes y ≡ after_outcome unawaited (with_unfinished bytes x) r

pub line_leaves : (unawaited : Bool) (x : UpsState) (r : Report × LineOutcome) →
    LineLeaves unawaited x r (after_outcome unawaited x r)
line_leaves unawaited x r = grind arith

-- whole lines, all at one moment
record LinesLeave (lines : List Heard) (x y : UpsState) : Type 0 where
  report : y.report ≡ after_heard x.report lines
  owed : y.owed ≡ x.owed
  counted : CountsRefused x lines y

lines_leave : (m place : ℕ) (t : TrackingState) (lines : List (List ℕ)) (x : UpsState) →
    LinesLeave (heard_at m place t lines) x (after_texts m place t lines x)
lines_leave m place t [] x = record { report = refl; owed = refl; counted = λ few. omega (arith, few) }
lines_leave m place t (line ∷ lines) x =
    let r : Report × LineOutcome = after_line m x.report line in
    let b : Bool = is_unawaited place (end_in line) t in
    grind (arith, line_leaves b x r, lines_leave m place (with_end place (end_in line) t) lines (after_text m b x line))

bytes_at : (m place : ℕ) (t : TrackingState) (lines : List (List ℕ)) →
    bytes_heard (heard_at m place t lines) ≡ joined lines
bytes_at m place t [] = refl
bytes_at m place t (line ∷ lines) =
    ap (λ (z : List ℕ). with_lf line ++ z) (bytes_at m place (with_end place (end_in line) t) lines)

whole_at : (m place : ℕ) (t : TrackingState) (text : List ℕ) (lines : List (List ℕ))
    (tail : Tail) → IsCutInto text lines tail → Each IsWholeLine (heard_at m place t lines)
whole_at m place t text _ tail (one_line {rest = rest} {first = first} {lines = lines} split few more) = (
  record {
    one = (no_line_without_lf first).1
        ((first_line_is_cut_off text first rest).0 split).1;
    short = omega (arith, few);
  },
  whole_at m place (with_end place (end_in first) t) rest lines tail more,
)
whole_at m place t text _ _ (unfinished none few) = tt
whole_at m place t text _ _ (overlong none many) = tt

begins_with : (m place : ℕ) (t : TrackingState) (text : List ℕ) (first others : List (List ℕ))
    → first ++ others ≡ whole_lines text → IsBeginning (bytes_heard (heard_at m place t first)) text
begins_with m place t text first others all =
    let rest : List ℕ = unfinished_after text in
    let joins : joined first ++ joined others ≡ joined (whole_lines text) =
    sym (flat_map-append with_lf first others) ∙ ap joined all in (
      joined others ++ rest,
      ap (λ (z : List ℕ). z ++ (joined others ++ rest))
          (bytes_at m place t first) ∙ sym (append_assoc (joined first) (joined others) rest) ∙
          ap (λ (z : List ℕ). z ++ rest) joins ∙ sym (whole_lines_and_the_rest_are_all text),
    )

begins_text : (m place : ℕ) (t : TrackingState) (text : List ℕ) (refused : Option ℕ) →
    IsBeginning (bytes_heard (heard_at m place t (as_far refused (whole_lines text)))) text
begins_text m place t text None = begins_with m place t text (whole_lines text) [] (append-nil (whole_lines text))
begins_text m place t text (Some k) =
    begins_with m place t text (take k (whole_lines text)) (drop k (whole_lines text))
    (take-append-drop k (whole_lines text))

-- an event leaves y of the UPS x, of whose driver this piece came, by which these lines are heard,
-- and which is given this and takes this
pub record Does (now : ℕ) (u : UpsId) (e : Event) (x : UpsState) (piece : List ℕ)
    (lines : List Heard) (given : List ServerLine) (taken : List ℕ) (y : UpsState) : Type 0 where
  pub stays : x.report.connected ≡ true → y.report.connected ≡ true → IsHeard x piece lines y
  pub loses : x.report.connected ≡ true → y.report.connected ≡ false →
      IsBeginning (bytes_heard lines) (x.unfinished ++ piece)
  pub begins : x.report.connected ≡ false → y.report.connected ≡ true →
      (e ≡ DriverUp u) × (y ≡ after_connecting now x)
  pub counted : CountsRefused x lines y
  pub takes : IsBeginning taken (x.owed ++ texts_of given)
  pub owes : (x.report.connected ≡ false → x.owed ≡ []) →
      (x.report.connected && not y.report.connected) ≡ false → x.owed ++ texts_of given ≡ taken ++ y.owed

module _ (now : ℕ) (u : UpsId) (e : Event) (x : UpsState) where
  -- nothing comes of it, and its driver stays
  pub goes_on : (given : List ServerLine) (taken : List ℕ) (y : UpsState) → y.report ≡
      x.report → y.unfinished ≡ x.unfinished → y.faulty ≡ x.faulty → x.owed ++
      texts_of given ≡ taken ++ y.owed → Does now u e x [] [] given taken y
  goes_on given taken y report same count owed =
      let driver : y.report.connected ≡ x.report.connected = ap (λ (r : Report). r.connected) report in
      let counted : CountsRefused x [] y = λ few. omega (arith, count, few) in
      record {
        stays = λ is still. record {
          whole = tt;
          all = append-nil x.unfinished ∙
              sym same;
          report = report;
          counted = counted;
        };
        loses = λ is gone. never_both x.report.connected is (sym driver ∙ gone);
        begins = λ gone is. never_both y.report.connected is (driver ∙ gone);
        counted = counted;
        takes = (y.owed, sym owed);
        owes = λ nothing kept. owed;
      }

  pub stays_so : Does now u e x [] [] [] [] x
  stays_so = goes_on [] [] x refl refl refl (append-nil x.owed)

  pub lost : (piece : List ℕ) (lines : List Heard) (y : UpsState) → x.report.connected ≡
      true → IsBeginning (bytes_heard lines) (x.unfinished ++ piece) →
      CountsRefused x lines y → Does now u e x piece lines [] [] (after_loss y)
  lost piece lines y is begins counted = record {
    stays = λ was still. cc still;
    loses = λ was gone. begins;
    begins = λ gone is. cc is;
    counted = counted;
    takes = (x.owed ++ [], refl);
    owes = λ nothing kept. never_both (x.report.connected && true) (and_from x.report.connected true is refl) kept;
  }

  pub unconnected : (piece : List ℕ) (given : List ServerLine) (y : UpsState) →
      x.report.connected ≡ false → y.faulty ≡ x.faulty →
      (y.report.connected ≡ true → (e ≡ DriverUp u) × (y ≡ after_connecting now x))
      → ((x.report.connected ≡ false → x.owed ≡ []) → x.owed ++ texts_of given ≡ y.owed)
      → Does now u e x piece [] given [] y
  unconnected piece given y absent count connects owes = record {
    stays = λ was still. never_both x.report.connected was absent;
    loses = λ was gone. never_both x.report.connected was absent;
    begins = λ gone still. connects still;
    counted = λ few. omega (arith, count, few);
    takes = (x.owed ++ texts_of given, refl);
    owes = λ nothing kept. owes nothing;
  }

  pub bytes_do : (t : TrackingState) (piece : List ℕ) (refused : Option ℕ)
      → Does now u e x piece (cond x.report.connected
      (heard_at now u.place t (as_far refused (whole_lines (x.unfinished ++ piece)))) []) [] []
      (ups_after_bytes now u.place t piece refused x)
  bytes_do t piece refused = by_connection x.report.connected refl refused
    where
      text : List ℕ
      text = x.unfinished ++ piece

      lines : Option ℕ → List Heard
      lines r = heard_at now u.place t (as_far r (whole_lines text))

      y : UpsState
      y = after_texts now u.place t (whole_lines text) x

      by_loss : x.report.connected ≡ true → (r : Option ℕ) →
          Does now u e x piece (lines r) [] [] (after_loss (after_texts now u.place t (as_far r (whole_lines text)) x))
      by_loss is r = lost piece (lines r)
          (after_texts now u.place t (as_far r (whole_lines text)) x) is
          (begins_text now u.place t text r) (lines_leave now u.place t (as_far r (whole_lines text)) x).counted

      by_length : x.report.connected ≡ true → (b : Bool) →
          Does now u e x piece (lines None) [] [] (cond b (after_loss y) (with_unfinished (unfinished_after text) y))
      by_length is true = by_loss is None
      by_length is false = let left = lines_leave now u.place t (whole_lines text) x in record {
        stays = λ was still. record {
          whole = whole_at now u.place t text (whole_lines text) (tail_after text) (whole_lines_are_the_cut text);
          all = whole_lines_and_the_rest_are_all text ∙
              ap (λ (z : List ℕ). z ++ unfinished_after text) (sym (bytes_at now u.place t (whole_lines text)));
          report = left.report;
          counted = left.counted;
        };
        loses = λ was gone. begins_text now u.place t text None;
        begins = λ gone still. never_both x.report.connected is gone;
        counted = left.counted;
        takes = (x.owed ++ [], refl);
        owes = λ nothing kept. append-nil x.owed ∙ sym left.owed;
      }

      by_connection : (b : Bool) → x.report.connected ≡ b → (r : Option ℕ) →
          Does now u e x piece (cond b (lines r) []) [] [] (cond b (ups_after_text now u.place t text r x) x)
      by_connection true is None = by_length is (is_too_long (unfinished_after text))
      by_connection true is (Some k) = by_loss is (Some k)
      by_connection false absent r = unconnected piece [] x absent refl
          (λ is. never_both x.report.connected is absent) (λ nothing. append-nil x.owed)
