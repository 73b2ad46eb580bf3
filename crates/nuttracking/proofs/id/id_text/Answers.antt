use Rattle.std.proofs.Common.{◌≡◌, length, sym, ap, ◌∙◌}
use Rattle.nuttracking.proofs.Texts.{hyphenated_is_text, id_text_length}
use Rattle.nuttracking.specs.Id.{id_text}
use Rattle.nuttracking.proofs.id.id_text.Goals as goal
use Rattle.uuid.specs.Text.{lower, hyphenated_text}

-- uuid writes the text of the id
written : (c : goal.After-as_bytes) → c.as_bytes.result.now ≡ id_text c.args.id
written c =
    c.as_bytes.ensures.value ∙ c.encode_lower-written.ensures.text
    ∙ ap (hyphenated_text lower) (c.hyphenated.ensures ∙ c.from_u128.ensures) ∙ hyphenated_is_text c.args.id

pub copy_from_slice-requires : goal.copy_from_slice-requires
copy_from_slice-requires c = sym (ap length (written c) ∙ id_text_length c.args.id)

pub returns : goal.returns
returns c =
    c.copy_from_slice.ensures.after ∙ c.as_bytes.ensures.value ∙ c.encode_lower-written.ensures.text
    ∙ ap (hyphenated_text lower) (c.hyphenated.ensures ∙ c.from_u128.ensures) ∙ hyphenated_is_text c.args.id
