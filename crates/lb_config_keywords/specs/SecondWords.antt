-- Second words of lines `timeout` and `option`, and the sections where they stand: HAProxy Configuration Manual 2.8, sections 4.1
-- and 4.2. `evacuate` is this project's own.
use Rattle.std.specs.Prelude.{ℕ, Bool, ◌||◌, List, [], ◌∷◌, Option, Some, None, codes, bytes_eq, if◌then◌else◌}
use Rattle.lb_config_keywords.specs.declared.second_word.OptionName.{OptionName}
use Rattle.lb_config_keywords.specs.declared.second_word.OptionName.TheVariants as Named
use Rattle.lb_config_keywords.specs.declared.second_word.Timeout.{Timeout}
use Rattle.lb_config_keywords.specs.declared.second_word.Timeout.TheVariants as Time
use Rattle.lb_config_keywords.specs.declared.section.Section.{Section}
use Rattle.lb_config_keywords.specs.Sections.{is_one_of, is_proxy, is_front, is_back, is_defaults}

-- what a time limits
unfoldable pub timeout_of : List ℕ → Option Timeout
timeout_of word =
    if bytes_eq word (codes "client") then Some Time.Client
    else (if bytes_eq word (codes "connect") then Some Time.Connect
    else (if bytes_eq word (codes "server") then Some Time.Server
    else (if bytes_eq word (codes "queue") then Some Time.Queue
    else (if bytes_eq word (codes "check") then Some Time.Check else None))))

abbrev pub timeout_stands_in : Timeout → Section → Bool
timeout_stands_in Time.Client section = is_front section || is_defaults section
timeout_stands_in _ section = is_back section || is_defaults section

-- times that are ignored
unfoldable pub is_ignored_timeout : List ℕ → Bool
is_ignored_timeout word =
    is_one_of (codes "http-request" ∷ codes "http-keep-alive" ∷ codes "tunnel" ∷ codes "client-fin" ∷ codes "server-fin" ∷ []) word

-- the option of this name
unfoldable pub option_of : List ℕ → Option OptionName
option_of word =
    if bytes_eq word (codes "httpchk") then Some Named.HttpCheck
    else (if bytes_eq word (codes "allbackups") then Some Named.AllBackups
    else (if bytes_eq word (codes "evacuate") then Some Named.Evacuate
    else (if bytes_eq word (codes "forwardfor") then Some Named.ForwardFor else None)))

abbrev pub option_stands_in : OptionName → Section → Bool
option_stands_in Named.ForwardFor section = is_proxy section
option_stands_in _ section = is_back section || is_defaults section

-- options that are ignored
unfoldable pub is_ignored_option : List ℕ → Bool
is_ignored_option word =
    is_one_of (codes "httplog" ∷ codes "dontlognull" ∷ codes "redispatch" ∷ codes "http-server-close" ∷ codes "http-keep-alive"
    ∷ codes "log-health-checks" ∷ codes "httpclose" ∷ []) word
