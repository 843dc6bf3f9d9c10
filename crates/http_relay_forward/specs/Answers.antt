-- The answers that the relay gives by itself: RFC 9110, section 15, with no body.
use Rattle.std.specs.Prelude.{ℕ, List, ◌++◌, codes}
use Rattle.http_relay_forward.specs.declared.answer.OwnAnswer.{OwnAnswer}
use Rattle.http_relay_forward.specs.declared.answer.OwnAnswer.TheVariants.{BadRequest, RequestTimeout, InternalServerError, BadGateway, ServiceUnavailable, GatewayTimeout}
use Rattle.http_relay_forward.specs.Forwarded.{line_end}

-- the status of the answer
abbrev pub status : OwnAnswer → ℕ
status BadRequest = 400
status RequestTimeout = 408
status InternalServerError = 500
status BadGateway = 502
status ServiceUnavailable = 503
status GatewayTimeout = 504

-- the status and the phrase of the answer
abbrev pub status_and_phrase : OwnAnswer → List ℕ
status_and_phrase BadRequest = codes "400 Bad Request"
status_and_phrase RequestTimeout = codes "408 Request Timeout"
status_and_phrase InternalServerError = codes "500 Internal Server Error"
status_and_phrase BadGateway = codes "502 Bad Gateway"
status_and_phrase ServiceUnavailable = codes "503 Service Unavailable"
status_and_phrase GatewayTimeout = codes "504 Gateway Timeout"

-- the bytes of the answer
abbrev pub answer_text : OwnAnswer → List ℕ
answer_text answer =
    codes "HTTP/1.1 " ++ status_and_phrase answer ++ line_end
    ++ codes "Content-Length: 0" ++ line_end ++ codes "Connection: close" ++ line_end ++ line_end

-- what tells a client to send its body: RFC 9110, section 15.2.1
abbrev pub continue_text : List ℕ
continue_text = codes "HTTP/1.1 100 Continue" ++ line_end ++ line_end
