-- The text of each answer: its lines, each with its end. All layouts are our own.
use Rattle.std.specs.Prelude.{ℕ, List, ◌++◌, codes, Result, OnOk, OnErr}
use Rattle.std.specs.Io.KnownBytes.{Appends}
use Rattle.std.specs.Option.{option_copied}
use Rattle.lb_types_counted.specs.Writers.{WriterState, AppendsFront, Rises}
use Rattle.dual_cert_text.specs.Faults.{fault_text}
use Rattle.command_socket_words.specs.Faults.{fault_text as command_fault_text}
use Rattle.lb_answers.specs.declared.answer.Answer.{Answer}
use Rattle.lb_answers.specs.declared.answer.Answer.TheVariants.{Reply, CommandFault, TextFault, Table, Rows, Plan, Journal, Evacuated, AllStale, OutOfMemory, Worn}
use Rattle.lb_answers.specs.Journals.{journal_text, plan_text}
use Rattle.lb_answers.specs.Replies.{reply_text}
use Rattle.lb_answers.specs.Scores.{score_text}
use Rattle.lb_answers.specs.Tables.{rows_text, table_text}

unfoldable pub answer_text : Answer → List ℕ
answer_text (Reply backend asked reply) = reply_text backend.now.servers.now asked reply.now ++ codes "\n"
answer_text (CommandFault fault) = command_fault_text fault ++ codes "\n"
answer_text (TextFault fault) = fault_text fault ++ codes "\n"
answer_text (Table backend pins) = table_text backend.now.name backend.now.servers.now backend.now.table pins.now
answer_text (Rows backend used pins) = rows_text backend.now.name backend.now.servers.now backend.now.table used pins.now
answer_text (Plan plan) = plan_text (option_copied plan)
answer_text (Journal backend first entries) = journal_text backend.now.name backend.now.servers.now first entries.now
answer_text (Evacuated score) = score_text score ++ codes "\n"
answer_text AllStale = codes "stale\n"
answer_text OutOfMemory = codes "out of memory\n"
answer_text Worn = codes "81 Worn\n"

-- all of the text went out, or else a write failed and a beginning of the text went out
pub record Wrote {E : Type 0} (old new : WriterState) (result : Result (Unit {0}) E) (text : List ℕ) : Type 0 where
  pub whole : OnOk result (Appends old.contents new.contents text)
  pub failed : OnErr result (Rises old.failures new.failures)
  pub front : OnErr result (AppendsFront old.contents new.contents text)
