use Rattle.ae_words.proofs.FirstBad.{one_command, never_both}
use Rattle.ae_words.proofs.OneAnswer.{command_or_place, one_place, place_within}
use Rattle.ae_words.proofs.read.words_have_one_answer.Goals as goal

pub returns-clause-one_of_two : goal.returns-clause-one_of_two
returns-clause-one_of_two c = command_or_place

pub returns-clause-command : goal.returns-clause-command
returns-clause-command c = one_command

pub returns-clause-place : goal.returns-clause-place
returns-clause-place c = one_place

pub returns-clause-never_both : goal.returns-clause-never_both
returns-clause-never_both c = never_both

pub returns-clause-within : goal.returns-clause-within
returns-clause-within c = place_within
