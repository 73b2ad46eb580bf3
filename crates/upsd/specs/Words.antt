-- The words that the program takes, as its parser reads them.
use Rattle.std.specs.Prelude.{List, [], ◌∷◌, Some, false, true, codes}
use Rattle.clap.specs.Simple.{new_shape}
use Rattle.clap.specs.Words.{App, Rule, Shape, new_app}
use Rattle.clap.specs.declared.builder.value_parser.ValueParser.TheVariants.{Unsigned}
use Rattle.nutargs.specs.Words.{explained, long_flag, long_option, long_options, operand, required}
use Rattle.nutargs.specs.Words.{with_words}
use Rattle.nutcore.specs.declared.max_age.TheConstants.{MAX_AGE_LEAST, MAX_AGE_MOST}
use Rattle.upsd.specs.declared.task.TheConstants.{DEFAULT_ADDRESS, IDLE_LEAST, IDLE_MOST, KEPT_PLACES_MOST, RECORD_MIB_MOST}

-- `serve --ups F --users F [--vars F] [--ids F] [--refill-ids] [--listen A:P] .. [--idle S]
-- [--keep-places N] [--maxage N] [--record F] [--record-limit N] [--priorities] [--nut-bytes]
-- [--explain]`. The address is the default one where none is named.
abbrev pub serve_words : List Rule
serve_words =
    required (long_option (codes "ups"))
    ∷ required (long_option (codes "users"))
    ∷ long_option (codes "vars") ∷ long_option (codes "ids")
    ∷ long_flag (codes "refill-ids")
    ∷ long_options (codes "listen") DEFAULT_ADDRESS.now
    ∷ record (long_option (codes "idle")) { parser = Some (Unsigned IDLE_LEAST IDLE_MOST) }
    ∷ record (long_option (codes "keep-places")) { parser = Some (Unsigned 0 KEPT_PLACES_MOST) }
    ∷ record (long_option (codes "maxage")) {
      parser = Some (Unsigned MAX_AGE_LEAST MAX_AGE_MOST);
    }
    ∷ long_option (codes "record")
    ∷ record (long_option (codes "record-limit")) { parser = Some (Unsigned 1 RECORD_MIB_MOST) }
    ∷ long_flag (codes "priorities") ∷ long_flag (codes "nut-bytes") ∷ []

abbrev pub serve_app : App
serve_app = explained (with_words (new_app (codes "serve")) serve_words)

-- `replay [--ups F] [--users F] [--vars F] [--explain] SCRIPT`.
abbrev pub replay_words : List Rule
replay_words =
    long_option (codes "ups") ∷ long_option (codes "users") ∷ long_option (codes "vars")
    ∷ required (operand (codes "SCRIPT")) ∷ []

abbrev pub replay_app : App
replay_app = explained (with_words (new_app (codes "replay")) replay_words)

-- One of the two has to be named.
abbrev pub upsd_shape : Shape
upsd_shape =
    record (new_shape (codes "upsd")) {
      is_leaf = false;
      has_version = true;
      subcommand_required = true;
    }

abbrev pub upsd_app : App
upsd_app = record { top = upsd_shape; subs = serve_app.top ∷ replay_app.top ∷ [] }
