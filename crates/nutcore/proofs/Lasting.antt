-- What never goes back.
use Rattle.nutcore.proofs.Common.{never_both}
use Rattle.std.proofs.Common.{◌≡◌, ℕ, ◌+◌, ◌<◌, ◌≤◌, true, false, List}
use Rattle.std.proofs.Common.{Option, Some, None, refl, sym, ◌∙◌, ap, subst, IfSome, drop}
use Rattle.std.proofs.Common.{inl, inr, ◌⊎◌, arith}
use Rattle.std.proofs.lemmas.List.{drop-drop}
use Rattle.nutusers.specs.declared.ups_list.UpsId.{UpsId}
use Rattle.nutanswer.specs.declared.reply.Change.TheVariants as changes
use Rattle.nutcore.specs.Lasting.{Lasts, IsEnding, WhatNeverGoesBack}
use Rattle.nutcore.specs.Reply.{reply, asker_of}
use Rattle.nutcore.specs.Pump.{answered, notified, holds_overlong}
use Rattle.nutcore.specs.Session.{SessionState}
use Rattle.nutcore.specs.Server.{ServerState, session}
use Rattle.nutcore.proofs.Changes.{keeps}
use Rattle.nutcore.proofs.Kept.{IsAny, any_event, by_run, ids_kept}
use Rattle.nutcore.proofs.Histories.{IsOfClient, of_run_of_client}
use Rattle.nutcore.proofs.Progress.{Presence}
use Rattle.nutcore.specs.declared.event.Event.{Event}
use Rattle.nutcore.specs.declared.event.Outcome.{Outcome}
use Rattle.nutcore.specs.Run.{Run}
use Rattle.nutcore.specs.Step.{joined, taken_from}
use Rattle.std.proofs.lemmas.Bool.{false≢true, lt-ltb}
use Rattle.nutcore.proofs.Pumping.{IsNext, change_at, session_after}
use Rattle.nutcore.proofs.Rows.{comes_of_line}

-- what a line, bytes that come and go, and a notice keep of a session
pub record IsLasting (IsSo : SessionState → Type 0) : Type 0 where
  pub line : (s : ServerState) (c : ℕ) (line : List ℕ) (n : IsNext s c line) →
      IsSo n.asking → IsSo (session_after s c line n.asking)
  pub joins : (piece : List ℕ) (x : SessionState) → IsSo x → IsSo (joined piece x)
  pub gives : (n : ℕ) (x : SessionState) → IsSo x → IsSo (taken_from n x)
  pub notice : (x : SessionState) → x.ending ≡ false → IsSo x → IsSo (notified x)

-- the client's id was given, and its session is so where it is open
abbrev pub IsThere : (SessionState → Type 0) → Presence → Type 0
IsThere IsSo p = (p.used ≡ true) × IfSome p.session IsSo

is_going : (x : SessionState) → holds_overlong x ≡ true → x.ending ≡ false
is_going x long = grind arith

stays_there : (IsSo : SessionState → Type 0) → IsLasting IsSo →
    IsOfClient (λ p xs taken asked q. IsThere IsSo p → IsThere IsSo q)
stays_there IsSo lasting = record {
  joins = λ p q r xs ys k k' a a' f g h. g (f h);
  stays = λ o u v up h. (up h.0, h.1);
  by_line = λ c s line n u h. (h.0, lasting.line s c line n h.1);
  by_notice = λ c s x u long h. (h.0, lasting.notice x (is_going x long) h.1);
  by_input = λ piece x u h. (h.0, lasting.joins piece x h.1);
  by_output = λ n x u h. (h.0, lasting.gives n x h.1);
  opens = λ id address h. absurd (false≢true h.0);
  closes = λ x u h. (h.0, tt);
}

lasts_where : (IsSo : SessionState → Type 0) → IsLasting IsSo →
    (old new : ServerState) (es : List Event) (os : List Outcome) (c : ℕ) →
    Run old es os new → c < old.next_id → IfSome (session c old) IsSo → IfSome (session c new) IsSo
lasts_where IsSo lasting old new es os c run lt so =
    (of_run_of_client _ (stays_there IsSo lasting) c old new es os run (lt-ltb _ _ lt, so)).1

lasts : (IsSo : SessionState → Type 0) → IsLasting IsSo → Lasts IsSo
lasts IsSo lasting old new es os c x run lt found so =
    lasts_where IsSo lasting old new es os c run lt (subst (λ o. IfSome o IsSo) (sym found) so)

-- a name that was given
never_fresh : {A : Type 0} (o : Option A) (a : A) → o ≡ Some a → o ≡ None → ⊥
never_fresh o a e f = let never : Some a ≡ None = sym e ∙ f in cc never

username_lasts : (name : List ℕ) → IsLasting (λ x. x.username ≡ Some name)
username_lasts name = record {
  line = λ s c line n so. elim (keeps (change_at s c line) (answered line (reply s c line) n.asking)).username [
    | inl same ↦ same ∙ so
    | inr (given, is, e) ↦ absurd (never_fresh n.asking.username name so
        (sym (ap (λ o. (asker_of o).username) n.found) ∙
        (comes_of_line s c line (changes.Username given) refl is).row.fresh))
  ];
  joins = λ piece x so. so;
  gives = λ n x so. so;
  notice = λ x going so. so;
}

password_lasts : (word : List ℕ) → IsLasting (λ x. x.password ≡ Some word)
password_lasts word = record {
  line = λ s c line n so. elim (keeps (change_at s c line) (answered line (reply s c line) n.asking)).password [
    | inl same ↦ same ∙ so
    | inr (given, is, e) ↦ absurd (never_fresh n.asking.password word so
        (sym (ap (λ o. (asker_of o).password) n.found) ∙
        (comes_of_line s c line (changes.Password given) refl is).row.fresh))
  ];
  joins = λ piece x so. so;
  gives = λ n x so. so;
  notice = λ x going so. so;
}

abbrev IsIn : UpsId → SessionState → Type 0
IsIn u x = (x.ending ≡ true) ⊎ (x.login ≡ Some u)

login_lasts : (u : UpsId) → IsLasting (IsIn u)
login_lasts u = record {
  line = λ s c line n so.
      let x : SessionState = n.asking in
      let kept = keeps (change_at s c line) (answered line (reply s c line) x) in
      elim so [
        | inl ends ↦ never_both x.ending ends n.going
        | inr is_in ↦ elim kept.login [
          | inl same ↦ inr (same ∙ is_in)
          | inr (inl gone) ↦ elim (kept.logged_out gone)
              [ inl before ↦ absurd (never_fresh x.login u is_in before) | inr ends ↦ inl ends ]
          | inr (inr (v, is, e)) ↦ absurd
              (never_fresh x.login u is_in
              (sym (ap (λ o. (asker_of o).login) n.found) ∙
              (comes_of_line s c line (changes.Login v) refl is).row.fresh))
        ]
      ];
  joins = λ piece x so. so;
  gives = λ n x so. so;
  notice = λ x going so. inl refl;
}

ending_lasts : (owed : List ℕ) → IsLasting (IsEnding owed)
ending_lasts owed = record {
  line = λ s c line n so. never_both n.asking.ending so.ends n.going;
  joins = λ piece x so. record { ends = so.ends; taken = so.taken; rest = so.rest };
  gives = λ n x so. record {
    ends = so.ends;
    taken = so.taken + n;
    rest = ap (drop n) so.rest ∙
        drop-drop n so.taken owed;
  };
  notice = λ x going so. never_both x.ending so.ends going;
}

-- a session that isn't there
none_lasting : IsLasting (λ x. ⊥)
none_lasting = record {
  line = λ s c line n so. so;
  joins = λ piece x so. so;
  gives = λ n x so. so;
  notice = λ x going so. so;
}

no_one : (o : Option SessionState) → IfSome o (λ x. ⊥) → o ≡ None
no_one o h = grind arith

pub never_back : WhatNeverGoesBack
never_back = record {
  username = λ name. lasts (λ x. x.username ≡ Some name) (username_lasts name);
  password = λ word. lasts (λ x. x.password ≡ Some word) (password_lasts word);
  login = λ u. lasts (IsIn u) (login_lasts u);
  ending = λ owed. lasts (IsEnding owed) (ending_lasts owed);
  closed = λ old new events outcomes c run lt gone. no_one (session c new)
      (lasts_where (λ x. ⊥) none_lasting old new events outcomes c run lt
      (subst (λ o. IfSome o (λ x. ⊥)) (sym gone) tt));
  ids = λ old new events outcomes run. by_run (λ s. old.next_id ≤ s.next_id) IsAny
      (ids_kept old.next_id) old new events outcomes run (any_event events) (omega arith);
}
