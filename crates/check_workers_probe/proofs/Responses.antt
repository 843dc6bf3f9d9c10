-- Why bytes never become a success, whatever follows them.
use Rattle.std.proofs.Common.{ℕ, ◌≤◌, List, length, drop, arith, ap, sym, ◌∙◌, subst}
use Rattle.httparse.specs.Grammar.{ResponseHead, HasNoResponse, print_response, status_code}
use Rattle.httparse.specs.Spans.{IsResponseAt}
use Rattle.httparse.specs.declared.spans.HeaderSpan.{HeaderSpan}
use Rattle.httparse.specs.declared.spans.ResponseSpans.{ResponseSpans}
use Rattle.httparse.proofs.GrammarLemmas.{response_prefix_free}
use Rattle.http_relay_wire.proofs.Rooms.{front_within}
use Rattle.check_workers_probe.specs.Probes.{BeginsWithSuccess, NeverBeginsWithSuccess}

-- a head with another status stands at the front, and no other head can
pub other_status : (text : List ℕ) (headers : List HeaderSpan) (spans : ResponseSpans) (head : ResponseHead)
    → IsResponseAt text headers spans head → ((200 ≤ spans.code) → (spans.code ≤ 399) → ⊥) → NeverBeginsWithSuccess text
other_status text headers spans head at other more (k, rest, success) =
    let same = response_prefix_free text more head k (drop spans.len text) rest at.reads success.reads in
    let code = at.code ∙ ap status_code same.0 in
    other (subst (λ n. 200 ≤ n) (sym code) success.least) (subst (λ n. n ≤ 399) (sym code) success.greatest)

-- no head of so many bytes stands at the front, and there are as many bytes
pub too_long : (text : List ℕ) → HasNoResponse text → 16384 ≤ length text → NeverBeginsWithSuccess text
too_long text none full more (head, rest, success) =
    let enough : length (print_response head) ≤ length text = omega (arith, success.size, full) in
    none head (drop (length (print_response head)) text)
    (success.reads.0, front_within text more (print_response head) rest success.reads.1 enough)
