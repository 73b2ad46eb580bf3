use Rattle.std.proofs.Common.{◌≡◌, ℕ, Bool, true, false, cond, List, Some, None, refl, sym, subst, IsTrue}
use Rattle.std.proofs.lemmas.Map.Views.{All-values-insert_entry}
use Rattle.nutusers.specs.Descriptions.{AreLawfulTexts}
use Rattle.nutusers.specs.Texts.{is_description}
use Rattle.nutusers.proofs.descriptions.file.add_text.Goals as goal

-- what is taken for a description is one
described : (text given : List ℕ) → Some text ≡
    cond (is_description given) (Some given) None → IsTrue (is_description text)
described text given = by_test (is_description given) refl
  where
    by_test : (b : Bool) → is_description given ≡ b → Some text ≡
        cond b (Some given) None → IsTrue (is_description text)
    by_test true e same = let text_is : text ≡ given = cc same in
        subst (λ t. IsTrue (is_description t)) (sym text_is) e
    by_test false e same = cc same

pub returns-in-Ok-clause-lawful : goal.returns-in-Ok-clause-lawful
returns-in-Ok-clause-lawful c h =
    let after = rw c.in-Ok.is at c.insert.ensures.entries in
    subst AreLawfulTexts (sym after)
    (All-values-insert_entry _ _ _ (λ t. IsTrue (is_description t)) _ h
    (described _ c.args.text.now c.in-Some.ensures))
