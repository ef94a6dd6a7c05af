use Rattle.ncc_chunk.proofs.Parts.{functions_read, functions_are_all, tests_too_long, functions_go_on, no_more_past_limit}
use Rattle.ncc_chunk.proofs.Parts.{dechunker_has_messages}
use Rattle.ncc_chunk.proofs.laws.messages_are_functions.Goals as goal

pub returns : goal.returns
returns c = record {
  read = functions_read;
  all = functions_are_all;
  too_long = tests_too_long;
  go_on = functions_go_on;
  no_more = no_more_past_limit;
  dechunker = dechunker_has_messages;
}
