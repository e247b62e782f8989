-- The text of a message whose dictionary has entries for drawn keys, and the word of a path to one of them. This project's
-- own.
use Rattle.std.specs.Prelude.{ℕ, zero, suc, List, [], ◌∷◌, ◌++◌, codes, decimal}
use Rattle.std.specs.Int.{to_be_bytes, w32}
use Rattle.hex.specs.Hex.{encode_upper}
use Rattle.sample_message.specs.Keys.{drawn, drawn_next, in_order}

-- the 32 bits of a key, as a value's text has them
abbrev pub key_text : ℕ → List ℕ
key_text key = codes "x{" ++ encode_upper (to_be_bytes w32 key) ++ codes "}"

-- a key, and itself as a number of four bytes
abbrev pub entry_text : ℕ → List ℕ
entry_text key = key_text key ++ codes ":var_uint{len:4,value:" ++ decimal key ++ codes "}"

-- entries after others
abbrev pub more_entries : List ℕ → List ℕ
more_entries [] = []
more_entries (key ∷ keys) = codes "," ++ entry_text key ++ more_entries keys

abbrev pub entries : List ℕ → List ℕ
entries [] = []
entries (key ∷ keys) = entry_text key ++ more_entries keys

-- what stands before them
abbrev pub before_entries : List ℕ
before_entries =
    codes "message{info:int_msg_info{ihr_disabled:bool_true{},bounce:bool_true{},bounced:bool_false{},"
    ++ codes "src:addr_std{anycast:nothing{},workchain_id:0,address:x{1111111111111111111111111111111111111111111111111111111111111111}},"
    ++ codes "dest:addr_std{anycast:nothing{},workchain_id:0,address:x{2222222222222222222222222222222222222222222222222222222222222222}},"
    ++ codes "value:currencies{grams:nanograms{amount:var_uint{len:4,value:1000000000}},other:extra_currencies{dict:<"

-- what stands after them
abbrev pub after_entries : List ℕ
after_entries =
    codes ">}},ihr_fee:nanograms{amount:var_uint{len:0,value:0}},fwd_fee:nanograms{amount:var_uint{len:0,value:0}},"
    ++ codes "created_lt:0,created_at:0},"
    ++ codes "init:just{value:left{value:_1{split_depth:nothing{},special:nothing{},code:just{value:^(x{FF00})},data:just{value:^(x{})},library:nothing{}}}},"
    ++ codes "body:right{value:^(x{00000000})}}"

abbrev pub message_text : ℕ → List ℕ
message_text count = before_entries ++ entries (in_order (drawn count)) ++ after_entries

-- the path to the entry of the first key that is drawn, or, where none is, to what would hold it
abbrev pub path_word : ℕ → List ℕ
path_word zero = codes "/info/value"
path_word (suc more) = codes "/info/value/other/dict/" ++ key_text (drawn_next (suc more))
