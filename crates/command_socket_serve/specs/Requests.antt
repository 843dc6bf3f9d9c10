-- Lines with which a client of HTTP begins: a method and a space stand first (RFC 9110, section 9; RFC 5789), or the version of HTTP
-- stands last (RFC 9112, section 3).
use Rattle.std.specs.Prelude.{ℕ, Bool, ◌==◌, ◌||◌, List, [], ◌∷◌, codes, nat_eq, if◌then◌else◌}
use Rattle.std.specs.List.{ends_with, list_all, list_any, starts_with}
use Rattle.std.specs.Str.{bytes_eq}

-- the methods, each with the space behind it
abbrev pub methods : List (List ℕ)
methods =
    codes "GET " ∷ codes "HEAD " ∷ codes "POST " ∷ codes "PUT " ∷ codes "DELETE " ∷ codes "CONNECT " ∷ codes "OPTIONS " ∷ codes "TRACE "
    ∷ codes "PATCH " ∷ []

-- words are parted by spaces (32) and semicolons (59)
abbrev pub parts_words : ℕ → Bool
parts_words byte = byte == 32 || byte == 59

-- the line up to the end of its last word
unfoldable pub up_to_last_word : List ℕ → List ℕ
up_to_last_word [] = []
up_to_last_word (byte ∷ more) = if list_all parts_words (byte ∷ more) then [] else byte ∷ up_to_last_word more

-- the text ends with the word, and does not only end with its bytes
abbrev pub ends_with_word : List ℕ → List ℕ → Bool
ends_with_word text word = bytes_eq text word || ends_with nat_eq text (32 ∷ word) || ends_with nat_eq text (59 ∷ word)

-- the line is one with which a request of HTTP begins
unfoldable pub is_request : List ℕ → Bool
is_request line =
    list_any (λ method. starts_with nat_eq line method) methods
    || list_any (λ version. ends_with_word (up_to_last_word line) version) (codes "HTTP/1.0" ∷ codes "HTTP/1.1" ∷ [])
