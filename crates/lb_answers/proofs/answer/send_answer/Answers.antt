use Rattle.lb_answers.specs.Answers.{answer_text}
use Rattle.lb_answers.proofs.Wrote.{Sends-wrote, Sends-wrote_line}
use Rattle.lb_answers.proofs.answer.send_answer.Goals as goal

pub returns-in-Reply : goal.returns-in-Reply
unfolding answer_text
returns-in-Reply g c = rw c.in-Reply.is (Sends-wrote_line c.args.out.now c.send_reply-sent.new.out c.send.new.out c.send_reply-sent.result c.send.result _ c.send_reply-sent.ensures c.send.ensures)

pub returns-in-CommandFault : goal.returns-in-CommandFault
unfolding answer_text
returns-in-CommandFault g c =
    let fault = rw (c.as_bytes.ensures.value, c.text.ensures) at c.send-sent.ensures in
    rw c.in-CommandFault.is (Sends-wrote_line c.args.out.now c.send-sent.new.out c.send-in-CommandFault.new.out c.send-sent.result c.send-in-CommandFault.result _ fault c.send-in-CommandFault.ensures)

pub returns-in-TextFault : goal.returns-in-TextFault
unfolding answer_text
returns-in-TextFault g c =
    rw c.in-TextFault.is (Sends-wrote_line c.args.out.now c.send_text_fault-sent.new.out c.send-in-TextFault.new.out c.send_text_fault-sent.result c.send-in-TextFault.result _ c.send_text_fault-sent.ensures c.send-in-TextFault.ensures)

pub returns-in-Table : goal.returns-in-Table
unfolding answer_text
returns-in-Table g c = rw c.in-Table.is (Sends-wrote _ _ _ _ c.send_table.ensures)

pub returns-in-Rows : goal.returns-in-Rows
unfolding answer_text
returns-in-Rows g c = rw c.in-Rows.is (Sends-wrote _ _ _ _ c.send_rows.ensures)

pub returns-in-Plan : goal.returns-in-Plan
unfolding answer_text
returns-in-Plan g c = rw c.in-Plan.is c.send_plan.ensures

pub returns-in-Journal : goal.returns-in-Journal
unfolding answer_text
returns-in-Journal g c = rw c.in-Journal.is (Sends-wrote _ _ _ _ c.send_journal.ensures)

pub returns-in-Evacuated : goal.returns-in-Evacuated
unfolding answer_text
returns-in-Evacuated g c =
    rw c.in-Evacuated.is (Sends-wrote_line c.args.out.now c.send_score-sent.new.out c.send-in-Evacuated.new.out c.send_score-sent.result c.send-in-Evacuated.result _ c.send_score-sent.ensures c.send-in-Evacuated.ensures)

pub returns-in-AllStale : goal.returns-in-AllStale
unfolding answer_text
returns-in-AllStale g c = rw c.in-AllStale.is (Sends-wrote _ _ _ _ c.send-in-AllStale.ensures)

pub returns-in-OutOfMemory : goal.returns-in-OutOfMemory
unfolding answer_text
returns-in-OutOfMemory g c = rw c.in-OutOfMemory.is (Sends-wrote _ _ _ _ c.send-in-OutOfMemory.ensures)

pub returns-in-Worn : goal.returns-in-Worn
unfolding answer_text
returns-in-Worn g c = rw c.in-Worn.is (Sends-wrote _ _ _ _ c.send-in-Worn.ensures)
