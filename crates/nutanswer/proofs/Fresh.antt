-- The data of a UPS that are answered are fresh.
use Rattle.std.proofs.Common.{◌≡◌, ◌≤◌, ◌-◌, ℕ, Bool, true, false, List, Option}
use Rattle.std.proofs.Common.{Some, Result, Ok, Err, refl, subst, cond, not, ltb, ◌||◌, arith}
use Rattle.std.proofs.lemmas.Bool.Decides.{nat_tests}
use Rattle.nutdriver.specs.declared.report.Report.{Report}
use Rattle.nutcommand.specs.declared.err_word.ErrWord.{ErrWord}
use Rattle.nutanswer.specs.View.{Seen, readiness, usable, not_connected, stale}
use Rattle.nutanswer.specs.Checks.{◌>>=◌, ◌>>◌, KnownUps, ups_named, known_ups, live}
use Rattle.nutanswer.specs.Answer.{Answer}
use Rattle.nutanswer.specs.Laws.{IsFresh}
use Rattle.nutanswer.proofs.CheckLemmas.{of_usable}

-- a report that is usable
record IsUsable (moment max_age : ℕ) (x : Report) : Type 0 where
  connected : x.connected ≡ true
  dumped : x.dumped ≡ true
  ok : x.ok ≡ true
  heard : moment - x.heard ≤ max_age

usable_is : (moment max_age : ℕ) (x : Report) → readiness moment max_age x ≡ usable → IsUsable moment max_age x
usable_is moment max_age x h = by x.connected x.dumped x.ok (ltb max_age (moment - x.heard)) refl refl refl refl h
  where
    by : (a b c d : Bool) → x.connected ≡ a → x.dumped ≡ b → x.ok ≡ c →
        ltb max_age (moment - x.heard) ≡ d
        → cond (not a) not_connected (cond (not b || (not c || d)) stale usable) ≡ usable →
        IsUsable moment max_age x
    by true true true false e f g k h = record { connected = e; dumped = f; ok = g; heard = grind (arith, nat_tests) }
    by true true true true e f g k h = cc h
    by true true false d e f g k h = cc h
    by true false c d e f g k h = cc h
    by false b c d e f g k h = cc h

module _ (s : Seen) (ups : Option (List ℕ)) where
  -- whatever is answered, the UPS is there and fresh
  abbrev pub AnswersFresh : Result Answer ErrWord → Type 0
  AnswersFresh r = (answer : Answer) → r ≡ Ok answer → (known : KnownUps) ×
      (ups_named s ups ≡ Some known) × IsFresh s known

  pub no_answer : (word : ErrWord) → AnswersFresh (Err word)
  no_answer word answer e = cc e

  fresh : (u : KnownUps) (r : Result Answer ErrWord) → ups_named s ups ≡ Some u →
      readiness s.moment s.max_age u.state.report ≡ usable → AnswersFresh r
  fresh u r named going answer e =
      let is = usable_is s.moment s.max_age u.state.report going in
      (u, named, record { connected = is.connected; dumped = is.dumped; ok = is.ok; heard = is.heard })

  pub row : (next : KnownUps → Result Answer ErrWord) →
      AnswersFresh (known_ups s ups >>= (λ u. live s u >> next u))
  row next = of_usable AnswersFresh no_answer s ups next (λ u named going. fresh u (next u) named going)

pub moved : (s : Seen) (ups other : Option (List ℕ)) (r : Result Answer ErrWord) → Some ups ≡
    Some other → AnswersFresh s ups r → AnswersFresh s other r
moved s ups other r h tells = subst (λ (o : Option (List ℕ)). AnswersFresh s o r) (cc h) tells
