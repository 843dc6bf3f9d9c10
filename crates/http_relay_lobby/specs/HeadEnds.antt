-- Where a search for the end of a request's head stands: RFC 9112, section 2.1 (a head ends with an empty line) and section 2.2 (empty
-- lines before it don't count, a line may end with a line feed alone, a carriage return stands nowhere else). Our own: a control byte
-- ends the search too, since no head has one. RFC 9110, section 5.5: a horizontal tab may stand in a value.
use Rattle.std.specs.Prelude.{ℕ, ◌==◌, ◌&&◌, ◌||◌, Bool, false, true, nat_lt, if◌then◌else◌, List}
use Rattle.std.specs.List.{fold}
use Rattle.http_relay_lobby.specs.declared.search.Search.{Search}
use Rattle.http_relay_lobby.specs.declared.search.Search.TheVariants.{Before, BeforeReturn, Line, LineReturn, Start, StartReturn, Found}

-- a byte that no head has: a control byte that is no horizontal tab
abbrev pub is_control : ℕ → Bool
is_control byte = (nat_lt byte 32 && (if byte == 9 then false else true)) || (byte == 127)

abbrev pub at_line_feed : Search → Search
at_line_feed Before = Before
at_line_feed BeforeReturn = Before
at_line_feed Line = Start
at_line_feed LineReturn = Start
at_line_feed Start = Found
at_line_feed StartReturn = Found
at_line_feed Found = Found

abbrev pub at_return : Search → Search
at_return Before = BeforeReturn
at_return BeforeReturn = Found
at_return Line = LineReturn
at_return LineReturn = Found
at_return Start = StartReturn
at_return StartReturn = Found
at_return Found = Found

abbrev pub at_text : Search → Search
at_text Before = Line
at_text BeforeReturn = Found
at_text Line = Line
at_text LineReturn = Found
at_text Start = Line
at_text StartReturn = Found
at_text Found = Found

-- the search behind one byte more
abbrev pub search_behind : Search → ℕ → Search
search_behind search byte =
    (if byte == 10 then at_line_feed search
    else (if byte == 13 then at_return search
    else (if is_control byte then Found
    else at_text search)))

-- the search in these bytes, from the first on
abbrev pub search_of : List ℕ → Search
search_of bytes = fold search_behind Before bytes
