-- words: lists of numbers, one to a cell
pub mod Words
-- what operations answer, and what they leave in the output buffer
pub mod Answers
-- codes: document 01's plans
pub mod Codes
-- syndromes and codewords of a code
pub mod Codewords
-- error patterns: document 01's patterns, their order and their number
pub mod Patterns
-- acceptance of a code: as a proposition, and as a test
pub mod Acceptance
-- decoding a received word: document 01's reading a row
pub mod Decoding
-- messages of a code: encoding (document 01: write) and recovery
pub mod Messages
-- the operations on codes, for every byte string and every buffer: document 01's refusals in their order
pub mod CodeOperations
-- patterns tried, to the number: document 02's wish 1
pub mod Tried
-- powers of two, and the bits of a number
pub mod PowersOfTwo
-- packing: the message of a code as bytes (document 01: bytes; document 02, wish 3: leftover bits must be 0)
pub mod Packing
-- the operations of packing, for every byte string and every buffer: document 01's "bytes, either way", with document 02's wish 3
pub mod PackingOperations
-- a message as one whole number, in mixed radix: document 02's wish 2
pub mod MessageNumbers
-- the operations between messages and numbers, for every byte string and every buffer: document 02's wish 2
pub mod MessageNumberOperations
-- labels: labelings of physical states with levels (document 001, section III)
pub mod Labels
-- the operations on labels, for every table and every buffer: document 01's refusals in their order
pub mod LabelOperations
-- digit planes: document 01's stacks
pub mod Stacks
-- within reach: the customer's term in demand 3, in words of levels alone
pub mod Reach
-- codewords and acceptance of a stack
pub mod StackCodewords
-- decoding a received word of a stack, from plane 0 upward
pub mod StackDecoding
-- messages of a stack: plane by plane, n - r digits below c
pub mod StackMessages
-- the operations on stacks, for every byte string and every buffer: document 01's refusals in their order
pub mod StackOperations
-- the cartridge image: its directory (document 01: contents), its check, and reading a row entry
pub mod Images
-- what the program cartlist prints for an image, as bytes: a line for each row entry, or a single line for a refused image
pub mod CartridgeLists
-- circular reading, as the customer describes its old program: the first pattern with the word's syndrome, lowered modulo q
pub mod Circular
-- the binary Golay code of 23 cells; the rule of a table of its patterns, one to each syndrome; and decoding without a description
pub mod Golay
-- the customer's demands, as predicates of an operation's answer and of what its output buffer holds when the call returns
pub mod Demands
-- examples a to l of document 01, as a table
pub mod Examples
-- a second table under the same law: rows that stop a wrong definition or show that a hypothesis can be met
pub mod FurtherExamples
-- a table of examples of labels, under the law of document 01's
pub mod LabelExamples
-- a table of examples of decoding the Golay code without a description, under the same law
pub mod GolayExamples
-- sizes that a caller needs before a call, since 8 asks for exact lengths: an addition to document 01's operations
pub mod Sizes
