-- How the program's words are built.
use Rattle.std.proofs.Common.{◌≡◌, ◌&&◌, Bool, true, false, not, refl}
use Rattle.clap.specs.Simple.{on_top}
use Rattle.clap.specs.Words.{App}

abbrev pub versioned : App → App
versioned = on_top (λ s. record s { has_version = true })

abbrev pub with_one_demanded : App → App
with_one_demanded = on_top (λ s. record s { subcommand_required = true })

-- The third of what makes a command plain.
pub third_not : (a b c d : Bool) → (a && (not b && (not c && d))) ≡ true → c ≡ false
third_not a b false d plain = refl
third_not true true true d plain = cc
third_not true false true d plain = cc
third_not false b true d plain = cc
