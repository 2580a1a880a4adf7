use Rattle.std.proofs.Common.{rules}
use Rattle.triangulations.specs.Stored.{lawful_list}
use Rattle.triangulations.proofs.table.Table.is_lawful.Goals as goal

pub returns-then-all_turn_back : goal.returns-then-all_turn_back
unfolding lawful_list
returns-then-all_turn_back c = search rules

pub returns-else-all_turn_back : goal.returns-else-all_turn_back
unfolding lawful_list
returns-else-all_turn_back c = search rules
