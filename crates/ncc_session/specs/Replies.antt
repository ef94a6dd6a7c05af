-- The answers of a session: their dictionaries, with the keys in their order. From the messages of Bolt 4.4.
use Rattle.std.specs.Prelude.{ℕ, pos, true, if◌then◌else◌, List, [], ◌∷◌, ◌++◌, codes, decimal}
use Rattle.ncc_pack.specs.declared.value.Value.{Value}
use Rattle.ncc_pack.specs.declared.value.Value.TheVariants as v
use Rattle.ncc_bolt.specs.Fields.{Pairs}
use Rattle.ncc_bolt.specs.Writing.{short_response}
use Rattle.ncc_bolt.specs.declared.message.Response.{Response}
use Rattle.ncc_bolt.specs.declared.message.Response.TheVariants as s
use Rattle.ncc_chunk.specs.Chunked.{chunked}
use Rattle.ncc_bookmark.specs.Spelling.{text_of}
use Rattle.ncc_cypher.specs.declared.tree.Statement.{Statement}
use Rattle.ncc_cypher.specs.declared.tree.Tail.{Tail}
use Rattle.ncc_cypher.specs.declared.tree.Tail.TheVariants as l
use Rattle.ncc_cypher.specs.Writing.{writes}
use Rattle.ncc_route.specs.Routing.{leading, readers}
use Rattle.ncc_route.specs.declared.members.Members.{Members}
use Rattle.ncc_session.specs.declared.refusal.Refusal.{Refusal}
use Rattle.ncc_session.specs.Refusals.{code_of, message_of}
use Rattle.ncc_session.specs.Question.{Output, wrote}

-- a text under a key, and an integer
abbrev pub text_at : List ℕ → List ℕ → List ℕ × Value
text_at key text = (key, v.Text text)

abbrev pub number_at : List ℕ → ℕ → List ℕ × Value
number_at key n = (key, v.Int (pos n))

-- the answer is written: its shortest spelling, in chunks
abbrev pub reply : Response → Output
reply response = wrote (chunked (short_response response))

abbrev pub success : Pairs → Output
success meta = reply (s.Success meta)

abbrev pub failure_meta : Refusal → Pairs
failure_meta refusal = text_at (codes "code") (code_of refusal) ∷ text_at (codes "message") (message_of refusal) ∷ []

abbrev pub failure : Refusal → Output
failure refusal = reply (s.Failure (failure_meta refusal))

abbrev pub hello_meta : ℕ → Pairs
hello_meta conn = text_at (codes "server") (codes "Neo4j/4.4.0") ∷ text_at (codes "connection_id") (codes "bolt-" ++ decimal conn) ∷ []

-- behind a RUN outside of a transaction, and in one, where the result has a number
abbrev pub run_meta : List Value → Pairs
run_meta columns = (codes "fields", v.List columns) ∷ number_at (codes "t_first") 0 ∷ []

abbrev pub step_meta : List Value → ℕ → Pairs
step_meta columns number = (codes "fields", v.List columns) ∷ number_at (codes "t_first") 0 ∷ number_at (codes "qid") number ∷ []

-- where rows are left
abbrev pub more_meta : Pairs
more_meta = (codes "has_more", v.Bool true) ∷ []

-- "r" where the step does not write, "rw" where it writes and has RETURN, else "w"
abbrev pub writing_kind : Tail → List ℕ
writing_kind l.Nothing = codes "w"
writing_kind _ = codes "rw"

abbrev pub kind_of : Statement → List ℕ
kind_of statement = if writes statement then writing_kind statement.tail else codes "r"

-- the end of a result, in a transaction
abbrev pub end_meta : List ℕ → Pairs
end_meta kind = text_at (codes "type") kind ∷ number_at (codes "t_last") 0 ∷ text_at (codes "db") (codes "neo4j") ∷ []

abbrev pub bookmark_at : ℕ → ℕ → List ℕ × Value
bookmark_at cluster place = text_at (codes "bookmark") (text_of (record { cluster = cluster; place = place }))

-- the end of the result of a transaction by itself, which is done
abbrev pub done_meta : ℕ → ℕ → List ℕ → Pairs
done_meta cluster place kind = bookmark_at cluster place ∷ end_meta kind

abbrev pub commit_meta : ℕ → ℕ → Pairs
commit_meta cluster place = bookmark_at cluster place ∷ []

-- the addresses of a role, where there are any
abbrev pub server : List ℕ → List Value → List Value
server role [] = []
server role (x ∷ xs) = v.Dict ((codes "addresses", v.List (x ∷ xs)) ∷ text_at (codes "role") role ∷ []) ∷ []

abbrev pub servers : Members → ℕ → List Value
servers members leader =
    server (codes "WRITE") (leading leader members.cores) ++ server (codes "READ") (readers leader members)
    ++ server (codes "ROUTE") members.cores

abbrev pub table_meta : Members → ℕ → ℕ → Pairs
table_meta members leader ttl = (
  codes "rt",
  v.Dict (
      number_at (codes "ttl") ttl ∷ text_at (codes "db") (codes "neo4j") ∷ (codes "servers", v.List (servers members leader)) ∷ []),
) ∷ []
