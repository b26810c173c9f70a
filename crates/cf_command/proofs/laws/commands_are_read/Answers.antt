use Rattle.std.proofs.Common.{refl}
use Rattle.clap.proofs.OnLiterals.{clap_on_literals}
use Rattle.cf_command.specs.Words.{command_of, workers_of}
use Rattle.cf_command.proofs.laws.commands_are_read.Goals as goal

pub returns : goal.returns
unfolding clap_on_literals command_of workers_of
returns c = record { run = refl; race = refl; two_words = refl; one_word = refl; too_many = refl; zero = refl; leading_zero = refl; sign = refl; no_number = refl; no_words = refl; other_word = refl; help = refl; help_word = refl; run_with_option = refl; run_with_word = refl; escape = refl }
