-- The key that an answer teaches a table: HAProxy Configuration Manual 2.8, `stick on` and `stick-table`; that a `stick on` of a cookie
-- learns from answers is our own, where HAProxy has `stick store-response`.
use Rattle.std.specs.Prelude.{◌≡◌, ℕ, Bool, true, false, List, Option, Some, None}
use Rattle.pin_set.specs.declared.pin_key.PinKey.{PinKey}
use Rattle.lb_acl.specs.Keys.{IsKeyFrom}
use Rattle.lb_acl.specs.declared.key.KeySample.{KeySample}
use Rattle.lb_acl.specs.declared.key.KeySample.TheVariants as Of
use Rattle.lb_acl.specs.declared.key.StickOn.{StickOn}
use Rattle.set_cookie.specs.Answers.{is_unfinished, taught}
use Rattle.set_cookie.specs.declared.key.TaughtKey.{TaughtKey}
use Rattle.set_cookie.specs.declared.key.TaughtKey.TheVariants.{Unfinished, Nothing, Key}

-- answers teach nothing but cookies
abbrev pub learns : KeySample → Bool
learns (Of.Cookie name) = true
learns _ = false

-- the text that an answer teaches, which the client's next request brings as the text of this sample
abbrev pub taught_text : KeySample → List ℕ → Option (List ℕ)
taught_text (Of.Cookie name) answer = taught answer name
taught_text _ answer = None

-- the key is what the table makes of that text, as it does of a request's
abbrev pub IsTaughtKey : StickOn → List ℕ → Option PinKey → Type 0
IsTaughtKey pattern answer key = IsKeyFrom pattern.table (taught_text pattern.sample answer) key

-- what the first bytes of an answer teach: nothing yet, while more bytes may teach something; then nothing, or this key
abbrev pub IsTaught : StickOn → List ℕ → TaughtKey → Type 0
IsTaught pattern answer Unfinished = is_unfinished answer ≡ true
IsTaught pattern answer Nothing = (is_unfinished answer ≡ false) × IsTaughtKey pattern answer None
IsTaught pattern answer (Key key) = (is_unfinished answer ≡ false) × IsTaughtKey pattern answer (Some key)
