-- The server of a request, by the way to it. Our own words.
use Rattle.std.specs.Prelude.{Option}
use Rattle.http_relay_talk.specs.Lessons.{LessonView}
use Rattle.http_relay_talk.specs.declared.target.Target.{Target}
use Rattle.http_relay_talk.specs.declared.target.Way.{Way}

-- the server that is reached in this way, whose answer may teach this
abbrev pub target_by : Option LessonView → Way → Target
target_by lesson way = record {
  server = way.server;
  endpoint = way.endpoint;
  limits = way.limits;
  queue = way.queue;
  lesson = lesson;
}
